-- The loop over the functions (01, 6.3): what is known before each turn, and what a turn and the end of the loop give.
use Prim.Native.Nat.{ℕ, ◌+◌, ◌≤◌, ◌<◌}
use native.Mathlib.Omega.{arith}
use native.Mathlib.Numerals.{add-one}
use mathlib.Core.List.{List}
use mathlib.Core.Path.{◌≡◌, refl, sym, ap, ◌∙◌, subst}
use lib.ListN.{length}
use Rattle.definitions.specs.Limits.{version_1}
use Rattle.definitions.specs.Module.{globals, functions, sheet}
use Rattle.definitions.proofs.Modules.{sections_refused}
use Rattle.vocabulary.specs.Said.{refusal_said}
use Rattle.vocabulary.specs.declared.refusal.Refusal.{Refusal}
use Rattle.memory.specs.Layout.{size}
use Rattle.module.specs.declared.Sheet.{Sheet}
use Rattle.module.specs.Sheets.{SheetLayout}
use Rattle.form.proofs.Accepted as form
use Rattle.form.proofs.Accepted.{Accepted}
use Rattle.std.specs.Prelude.{Result, Ok, Err}
use Rattle.analyzer.specs.Run.{ValidRun, SectionsWritten, SectionsAfter, WriteResult, ValidNext}
use Rattle.analyzer.proofs.ReportGrowth.{none_so_far}

-- before the turn of function f of n, whose sheet begins at `at`; report₀ is the lent report as it came
pub record Turn (m report₀ report work : List ℕ) (n at out f : ℕ) : Type 0 where
  pub accepted : Accepted m
  pub all : n ≡ functions m
  pub few : f ≤ n
  pub begins : at ≡ sheet m f
  pub so_far : SectionsWritten m f report work out
  pub report_long : length report ≡ length report₀
  pub report_room : 65536 ≤ length report
  pub work_long : length work ≡ size

-- the module's header is there
pub header_there : {m report work : List ℕ} → ValidRun m report work → 10 ≤ length m
header_there {m} p = (form.file_small m p.formed).0

pub first_turn : {m report work : List ℕ} {n i g : ℕ} → ValidRun m report work → length work ≡ size → n ≡ functions m → g ≡ globals m → i ≡ g
    → Turn m report report work n (10 + i) 9 0
unfolding sheet
first_turn {m} {report} {work} {n} {i} {g} p l en eg ei = record {
  accepted = p.formed;
  all = en;
  few = omega arith;
  begins = omega (arith, ei, eg);
  so_far = none_so_far m report work 9 (form.header m p.formed) refl;
  report_long = refl;
  report_room = p.report_room;
  work_long = l;
}

module _ {m report₀ report work : List ℕ} {n at out f : ℕ} (t : Turn m report₀ report work n at out f) (lt : f < n) where
  there : f < functions m
  there = omega (arith, t.all)

  -- what reading its sheet asks
  pub sheet_there : (at ≡ sheet m f) × (at + 17 ≤ length m) × (length m ≤ 65536)
  sheet_there = (t.begins, omega (arith, form.sheet_there m t.accepted f there, t.begins), (form.file_small m t.accepted).1)

  module _ {s : Sheet} (sheet_is : (s.function ≡ f) × SheetLayout m s) where
    pub next_there : ValidNext m s report work out
    next_there = record {
      held = record {
        stands = form.sheet_stands m t.accepted f there s sheet_is.0 sheet_is.1;
        formed = form.header m t.accepted;
        present = omega (arith, there, sheet_is.0);
      };
      long = t.work_long;
      so_far = subst (λ k. SectionsWritten m k report work out) (sym sheet_is.0) t.so_far;
      report_room = t.report_room;
    }

    module _ {report' work' : List ℕ} {w : Result ℕ Refusal} (g : WriteResult m (s.function + 1) report report' work' w) where
      after_to : {out' : ℕ} → w ≡ Ok out' → SectionsWritten m (f + 1) report' work' out'
      after_to {out'} e =
          subst (λ k. SectionsWritten m (k + 1) report' work' out') sheet_is.0 (subst (SectionsAfter m (s.function + 1) report' work') e g.after)

      -- the next turn
      pub turn_again : {out' : ℕ} → w ≡ Ok out' → Turn m report₀ report' work' n s.end out' (f + 1)
      turn_again {out'} e = record {
        accepted = t.accepted;
        all = t.all;
        few = omega arith;
        begins = sym (form.next_sheet_at m t.accepted f there s sheet_is.0 sheet_is.1) ∙ ap (sheet m) (sym (add-one f));
        so_far = after_to e;
        report_long = g.report_long ∙ t.report_long;
        report_room = omega (arith, g.report_long, t.report_room);
        work_long = g.work_long;
      }

      -- a refusal ends the run, whatever functions follow
      pub turn_refused : {r : Refusal} → w ≡ Err r → WriteResult m (functions m) report₀ report' work' (Err r)
      turn_refused {r} e = record {
        after = sections_refused version_1 m (s.function + 1) (functions m) (refusal_said r) (omega (arith, there, sheet_is.0))
            (subst (SectionsAfter m (s.function + 1) report' work') e g.after);
        report_long = g.report_long ∙ t.report_long;
        work_long = g.work_long;
      }

pub turns_end : {m report₀ report work : List ℕ} {n at out f : ℕ} → Turn m report₀ report work n at out f → n ≤ f → WriteResult m (functions m) report₀ report work (Ok out)
turns_end {m} {report₀} {report} {work} {n} {at} {out} {f} t h = record {
  after = subst (λ k. SectionsWritten m k report work out) (let z : f ≡ functions m = omega (arith, t.all, t.few) in z) t.so_far;
  report_long = t.report_long;
  work_long = t.work_long;
}
