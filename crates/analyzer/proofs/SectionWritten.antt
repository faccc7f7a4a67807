-- A function's section, once its run has come to something (01, 6.2 and 6.4).
use Prim.Native.Nat.{ℕ, ◌+◌, ◌*◌, ◌≤◌, ◌<◌}
use native.Mathlib.Omega.{arith}
use mathlib.Core.List.{List}
use mathlib.Core.Path.{◌≡◌, refl, sym, ap, ◌∙◌, subst}
use lib.ListN.{length}
use Rattle.definitions.specs.Limits.{version_1}
use Rattle.definitions.specs.Module.{globals, expressions}
use Rattle.definitions.specs.Report.{section_bytes}
use Rattle.definitions.specs.Walk as walks
use Rattle.definitions.specs.Analyse.{section_of}
use Rattle.vocabulary.specs.declared.refusal.Refusal.TheVariants as refusals
use Rattle.vocabulary.specs.Said.{may_kill_said}
use Rattle.memory.specs.Layout.{sections_at, size, uses_at, pairs_at, mixed_at}
use Rattle.memory.specs.View.{viewed}
use Rattle.memory.specs.Changes.{with_section}
use Rattle.memory.specs.Facts.{MemoryResult, ValidShape}
use Rattle.module.specs.declared.Sheet.{Sheet}
use Rattle.module.proofs.Places.{bounds}
use Rattle.report.specs.Laid.{laid, BytesPut}
use Rattle.report.specs.Written.{full_shape, written, ValidSectionRoom}
use Rattle.report.specs.Sizes.{section_size}
use Rattle.report.specs.declared.Summary.{Summary}
use Rattle.report.proofs.SectionBytes.{section_written, length_written}
use Rattle.rules_statements.specs.declared.Passed.{Passed}
use Rattle.rules_statements.specs.Said.{outcome_said, SummaryOf}
use Rattle.rules_pairs.specs.States.{shape_of, state_of}
use Rattle.rules_statements.specs.Results.{known_state}
use Rattle.std.specs.Prelude.{Ok, Err}
use Rattle.analyzer.specs.Run.{SectionsWritten, WriteResult, ValidNext}
use Rattle.analyzer.specs.Functions.{FunctionRun}
use Rattle.analyzer.proofs.ReportGrowth.{too_long, one_more}

-- the counts of its section, as the code has them
pub record Counted (m : List ℕ) (s : Sheet) (g e : ℕ) : Type 0 where
  pub globals_are : g ≡ globals m
  pub expressions_are : e ≡ s.expressions

module _ {m : List ℕ} {s : Sheet} {report w : List ℕ} {out : ℕ} {p : Passed} {g e : ℕ} (next : ValidNext m s report w out) (came : FunctionRun m s report w p) (counted : Counted m s g e) where
  f : ℕ
  f = s.function

  expressions_are : e ≡ expressions m s.function
  expressions_are = counted.expressions_are ∙ (bounds m s next.held.stands).laid.expressions_are

  pub few_counts : ValidShape (full_shape g e p.lists.pairs p.lists.mixed)
  unfolding version_1 full_shape uses_at pairs_at mixed_at sections_at
  few_counts = record {
    known_in = omega arith;
    expressions_in = omega (arith, counted.expressions_are, (bounds m s next.held.stands).few_expressions);
    globals_in = omega (arith, counted.globals_are, next.held.formed.few_globals);
    pairs_in = omega (arith, came.stand.few_pairs);
    mixed_in = omega (arith, came.stand.few_mixed);
  }

  -- its end is a number that a usize holds
  pub small_end : {n : ℕ} → n ≡ section_size g e p.lists.pairs p.lists.mixed → out + n ≤ 100000
  unfolding version_1
  small_end sized = omega (
    arith,
    sized,
    next.so_far.short,
    counted.globals_are,
    next.held.formed.few_globals,
    counted.expressions_are,
    (bounds m s next.held.stands).few_expressions,
    came.stand.few_pairs,
    came.stand.few_mixed,
  )

  -- what the definitions' run has come to
  abbrev pub a : walks.Walked
  a = record { state = known_state m s.function p.lists w; outcome = outcome_said p.outcome }

  viewed_is : viewed (full_shape g e p.lists.pairs p.lists.mixed) w ≡ known_state m s.function p.lists w
  unfolding state_of shape_of full_shape
  viewed_is = λ i. viewed (record {
    known = expressions_are i;
    expressions = expressions_are i;
    globals = counted.globals_are i;
    pairs = p.lists.pairs;
    mixed = p.lists.mixed;
  }) w

  section_is : (y : Summary) → SummaryOf p.outcome y → written y w g e p.lists.pairs p.lists.mixed ≡ section_of m s.function a
  section_is y h =
      section_written m s.function a y w g e p.lists.pairs p.lists.mixed expressions_are viewed_is h.origin_is h.requirements_are h.may_kill_is

  module _ {n : ℕ} (sized : n ≡ section_size g e p.lists.pairs p.lists.mixed) where
    -- how long it is, by a summary that says the outcome
    section_long : length (section_bytes (section_of m s.function a)) ≡ n
    section_long =
        let o = p.outcome in
        let y : Summary = record { origin = o.origin; requirements = o.requirements; may_kill = may_kill_said o.exit.0 } in
        ap (λ v. length (section_bytes v)) (sym (section_is y (record { origin_is = refl; requirements_are = refl; may_kill_is = refl })))
        ∙ (length_written y w g e p.lists.pairs p.lists.mixed ∙ sym sized)

    pub put_refused : 65536 < out + n → WriteResult m (s.function + 1) report report w (Err (refusals.Report s.function))
    put_refused h = record {
      after = too_long m s.function report w out next.so_far a came.ran n section_long h;
      report_long = refl;
      work_long = next.long;
    }

    pub put_more : {report' work' : List ℕ} {i : ℕ} {y : Summary} → SummaryOf p.outcome y → out + n ≤ 65536 → BytesPut report report' out (section_bytes (written y w g e p.lists.pairs p.lists.mixed))
        → i ≡ s.function → MemoryResult work' (with_section w i out) → WriteResult m (s.function + 1) report report' work' (Ok (out + n))
    unfolding version_1 sections_at size
    put_more {report'} {work'} {i} {y} sums short put ei left = record {
      after =
          let few = next.held.formed.few_functions in
          let is : laid report out (section_bytes (section_of m s.function a)) ≡ report' = ap (λ v. laid report out (section_bytes v)) (sym (section_is y sums)) ∙ sym put.is in
          let was : with_section w s.function out ≡ work' = ap (λ k. with_section w k out) (sym ei) ∙ sym left.is in
          subst (λ b. SectionsWritten m (s.function + 1) b work' (out + n)) is
          (subst (λ v. SectionsWritten m (s.function + 1) (laid report out (section_bytes (section_of m s.function a))) v (out + n)) was
          (one_more m s.function report w out next.so_far a came.ran n section_long next.held.formed next.held.present next.report_room short w refl
          (omega (arith, few, next.held.present, next.long))));
      report_long = put.long;
      work_long = left.long;
    }

  pub put_room : {n : ℕ} → n ≡ section_size g e p.lists.pairs p.lists.mixed → out + n ≤ 65536 → ValidSectionRoom report out w g e p.lists.pairs p.lists.mixed
  put_room {n} sized short = record {
    memory = next.long;
    counts = few_counts;
    fits = omega (arith, sized, next.report_room);
  }

-- where its place is kept
pub place_room : {m : List ℕ} {s : Sheet} {report w : List ℕ} {out i : ℕ} → ValidNext m s report w out → i ≡ s.function
    → (sections_at + 4 * i + 4 ≤ size) × (out < 4294967296)
unfolding version_1 sections_at size
place_room next e = (omega (arith, e, next.held.present, next.held.formed.few_functions), omega (arith, next.so_far.short))
