-- One function, between its neighbours: what its run asks, and what its answer gives.
use Prim.Native.Nat.{ℕ, suc, ◌+◌}
use native.Mathlib.Omega.{arith}
use native.Mathlib.Numerals.{add-one}
use mathlib.Core.List.{List}
use mathlib.Core.Path.{◌≡◌, refl, sym, ap, ◌∙◌, subst}
use lib.ListN.{length}
use Rattle.definitions.specs.Limits.{version_1}
use Rattle.definitions.specs.Module.{globals}
use Rattle.definitions.specs.Checks as checks
use Rattle.definitions.specs.Checks.{fine, refused, ◌>>=◌}
use Rattle.definitions.specs.Report.{concat_map, section_bytes}
use Rattle.definitions.specs.Analyse.{function_run, sections}
use Rattle.definitions.proofs.Reading.{Stands}
use Rattle.vocabulary.specs.Said.{refusal_said}
use Rattle.vocabulary.specs.declared.refusal.Refusal.{Refusal}
use Rattle.memory.specs.Changes.{table, section_at, told}
use Rattle.module.specs.declared.Sheet.{Sheet}
use Rattle.report.specs.Places.{section_place}
use Rattle.rules_statements.specs.declared.Passed as walk
use Rattle.std.specs.Prelude.{Result, Ok, Err}
use Rattle.rules_pairs.specs.States.{callees}
use Rattle.rules_statements.specs.Results.{walked_said, ValidListsAfter}
use Rattle.analyzer.specs.Run.{SectionsWritten, WriteResult, ValidNext}
use Rattle.analyzer.specs.Functions.{ValidStart, AnalysisResult, FunctionRun}
use Rattle.analyzer.proofs.CalleeSections.{settles}

-- the functions before it are those that the report and the table of sections tell of; nothing else of the memory counts
callees_kept : (m : List ℕ) (f : ℕ) (b w w' : List ℕ) → table w' ≡ table w → callees m f b w ≡ callees m f b w'
unfolding callees
callees_kept m f b w w' e = ap (λ t. told (globals m) b t f) (sym e)

so_far_kept : {m : List ℕ} {f : ℕ} {b w w' : List ℕ} {out : ℕ} → table w' ≡ table w → SectionsWritten m f b w out → SectionsWritten m f b w' out
so_far_kept {m} {f} {b} {w} {w'} {out} e h =
    let c = callees_kept m f b w w' e in
    record {
      by_rules = h.by_rules ∙ ap fine c;
      stands = subst (λ v. Stands b 9 (concat_map section_bytes v)) c h.stands;
      places = λ g lt. ap (λ t. section_at t g) e ∙ (h.places g lt ∙ ap (λ v. section_place v g) c);
      next = h.next ∙ ap (λ v. 9 + length (concat_map section_bytes v)) c;
      short = h.short;
    }

module _ {m : List ℕ} {s : Sheet} {report w : List ℕ} {out : ℕ} (next : ValidNext m s report w out) where
  pub begins : ValidStart m s report w
  begins = record {
    held = next.held;
    long = next.long;
    settled = settles m s.function report w out next.held.formed (omega (arith, next.held.present)) next.so_far next.report_room;
  }

  module _ {w' : List ℕ} {r : Result walk.Passed Refusal} (ran : AnalysisResult m s report w w' r) where
    pub came : {p : walk.Passed} → r ≡ Ok p → ValidNext m s report w' out × FunctionRun m s report w' p
    came {p} e = (
      record {
        held = next.held;
        long = ran.long;
        so_far = so_far_kept ran.kept next.so_far;
        report_room = next.report_room;
      },
      record {
        ran = ap (λ d. function_run version_1 m d s.function) (sym (callees_kept m s.function report w w' ran.kept))
            ∙ (sym ran.says ∙ ap (walked_said m s.function w') e);
        stand = subst (ValidListsAfter w') e ran.stand;
      },
    )

    sections_end : (q : checks.Refusal) → function_run version_1 m (callees m s.function report w) s.function ≡ refused q → sections version_1 m (suc s.function) ≡ refused q
    unfolding sections ◌>>=◌
    sections_end q e = rw (next.so_far.by_rules, e)

    pub not_came : {q : Refusal} → r ≡ Err q → WriteResult m (s.function + 1) report report w' (Err q)
    not_came {q} e = record {
      after = ap (sections version_1 m) (add-one s.function) ∙ sections_end (refusal_said q) (sym ran.says ∙ ap (walked_said m s.function w') e);
      report_long = refl;
      work_long = ran.long;
    }
