-- The steps of a function (01, 6.1): what each asks is there, and what they leave is the definitions' run.
use Prim.Native.Nat.{ℕ, zero, suc, ◌+◌, ◌*◌, ◌≤◌, ◌<◌}
use native.Mathlib.Omega.{arith}
use mathlib.Core.List.{List}
use mathlib.Core.Path.{◌≡◌, refl, sym, ap, ◌∙◌, subst}
use lib.ListN.{length}
use Rattle.definitions.specs.Bytes.{range, be16}
use Rattle.definitions.specs.Limits.{version_1}
use Rattle.definitions.specs.Module.{globals, expressions, statements, initialisers, initialiser, named, named_at}
use Rattle.definitions.specs.Checks.{fine, ◌>>=◌, through}
use Rattle.definitions.specs.Report.{r_section_end, r_entries_at, r_mixed_at, r_pairs_at}
use Rattle.definitions.specs.Roles.{R}
use Rattle.definitions.specs.State.{State, refer}
use Rattle.definitions.specs.Walk as walks
use Rattle.definitions.specs.Chains.{Ascending}
use Rattle.definitions.specs.Analyse.{initialise, name, function_run}
use Rattle.definitions.proofs.Bounds.{CountsWithin, more_within, initialise_within}
use Rattle.definitions.proofs.Extents.{Extent, whole_table}
use Rattle.definitions.proofs.Formed.{SheetFormed}
use Rattle.definitions.proofs.Step.{through_keeps}
use Rattle.vocabulary.specs.declared.refusal.Refusal.{Refusal}
use Rattle.memory.specs.Layout.{uses_at, pairs_at, mixed_at, sections_at, size}
use Rattle.memory.specs.View.{Shape, viewed}
use Rattle.memory.specs.Changes.{mask_of, referred, refer_line, table, section_at, told}
use Rattle.memory.specs.Facts.{ValidShape, MemoryResult}
use Rattle.memory.proofs.StoreState.{viewed_referred, viewed_named}
use Rattle.memory.proofs.Sections.{length_referred, referred_outside, length_queried, queried_outside, table_before}
use Rattle.memory.proofs.OperandReferences.{room_left}
use Rattle.module.specs.declared.Sheet.{Sheet}
use Rattle.module.proofs.Places.{bounds}
use Rattle.rules_pairs.specs.Bytes.{listed}
use Rattle.rules_pairs.specs.Lists.{ValidLists}
use Rattle.rules_pairs.specs.declared.lists.Lists.{Lists}
use Rattle.std.specs.Prelude as rust
use Rattle.rules_expressions.specs.Facts as asked
use Rattle.rules_expressions.specs.Steps.{StepResult, state_said, ValidStateAfter, all_expressions, initialise_line, name_line, ValidInitialisers}
use Rattle.rules_statements.specs.declared.Passed.{Passed}
use Rattle.rules_statements.specs.Said.{outcome_said}
use Rattle.rules_pairs.specs.States.{callees, shape_of, state_of}
use Rattle.rules_statements.specs.Results.{known_shape, known_state, CountsBelow, bound, WalkContext, ValidSection, ValidWalk, ValidWalkAfter, WalkResult, walked_said}
use Rattle.analyzer.specs.Functions.{ValidStart, FunctionResult, AnalysisResult, ValidExpressions, after_expressions}

-- ---- initialisers and named expressions, in the memory and in the state

module _ (h : Shape) (fit : ValidShape h) (m : List ℕ) (f : ℕ) where
  length_initialised : (n i : ℕ) (w : List ℕ) → length (through (initialise_line m f) (range i n) w) ≡ length w
  unfolding through range initialise_line refer_line
  length_initialised zero i w = refl
  length_initialised (suc n) i w = length_initialised n (suc i) (initialise_line m f i w) ∙ length_referred (mask_of R) w (initialiser m f i)

  viewed_initialised : (n i : ℕ) (w : List ℕ) → length w ≡ size → ((j : ℕ) → i ≤ j → j < i + n → initialiser m f j < h.known)
      → viewed h (through (initialise_line m f) (range i n) w) ≡ through (initialise m f) (range i n) (viewed h w)
  unfolding through range initialise_line refer_line initialise
  viewed_initialised zero i w l k = refl
  viewed_initialised (suc n) i w l k =
      viewed_initialised n (suc i) (initialise_line m f i w) (length_referred (mask_of R) w (initialiser m f i) ∙ l) (λ j a b. k j (omega arith) (omega arith))
      ∙ ap (λ s. through (initialise m f) (range (suc i) n) s) (viewed_referred h fit w l (initialiser m f i) (k i (omega arith) (omega arith)) R)

  table_initialised : (n i : ℕ) (w : List ℕ) → ((j : ℕ) → i ≤ j → j < i + n → initialiser m f j < h.known) → table (through (initialise_line m f) (range i n) w) ≡ table w
  unfolding through range initialise_line refer_line uses_at pairs_at
  table_initialised zero i w k = refl
  table_initialised (suc n) i w k =
      let a = k i (omega arith) (omega arith) in
      table_initialised n (suc i) (initialise_line m f i w) (λ j p q. k j (omega arith) (omega arith))
      ∙ table_before w (referred (mask_of R) w (initialiser m f i)) (referred_outside (mask_of R) w (initialiser m f i) (omega (arith, a, fit.known_in, fit.expressions_in)))
      (length_referred (mask_of R) w (initialiser m f i))

  length_named : (n i : ℕ) (w : List ℕ) → length (through (name_line m f) (range i n) w) ≡ length w
  unfolding through range name_line
  length_named zero i w = refl
  length_named (suc n) i w = length_named n (suc i) (name_line m f i w) ∙ length_queried w (be16 w (9 * named_at m f i + 7))

  viewed_all_named : (n i : ℕ) (w : List ℕ) → length w ≡ size → ((j : ℕ) → i ≤ j → j < i + n → named_at m f j < h.known)
      → viewed h (through (name_line m f) (range i n) w) ≡ through (name m f) (range i n) (viewed h w)
  unfolding through range name_line name
  viewed_all_named zero i w l k = refl
  viewed_all_named (suc n) i w l k =
      viewed_all_named n (suc i) (name_line m f i w) (length_queried w (be16 w (9 * named_at m f i + 7)) ∙ l) (λ j a b. k j (omega arith) (omega arith))
      ∙ ap (λ s. through (name m f) (range (suc i) n) s) (viewed_named h fit w l (named_at m f i) (k i (omega arith) (omega arith)))

  table_named : (n i : ℕ) (w : List ℕ) → table (through (name_line m f) (range i n) w) ≡ table w
  unfolding through range name_line
  table_named zero i w = refl
  table_named (suc n) i w =
      table_named n (suc i) (name_line m f i w)
      ∙ table_before w (name_line m f i w) (queried_outside w (be16 w (9 * named_at m f i + 7))) (length_queried w (be16 w (9 * named_at m f i + 7)))

initialised_within : (m : List ℕ) (f k n i : ℕ) (s : State) → CountsWithin k s → CountsWithin (k + n) (through (initialise m f) (range i n) s)
unfolding through range
initialised_within m f k zero i s c = more_within k (k + 0) s (omega arith) c
initialised_within m f k (suc n) i s c =
    more_within (suc k + n) (k + suc n) (through (initialise m f) (range (suc i) n) (initialise m f i s)) (omega arith)
    (initialised_within m f (suc k) n (suc i) (initialise m f i s) (initialise_within version_1 m f k i s c))

-- ---- what is known once all expressions are

full_fits : (m : List ℕ) (s : Sheet) (w : List ℕ) (l : Lists) → WalkContext m s → l.pairs ≤ version_1.pairs → l.mixed ≤ version_1.pairs → ValidShape (known_shape m s.function l)
unfolding shape_of version_1 uses_at pairs_at mixed_at sections_at
full_fits m s w l h p q = record {
  known_in = omega arith;
  expressions_in = omega (arith, (h.formed.each_sheet s.function h.present).few_expressions);
  globals_in = omega (arith, h.formed.few_globals);
  pairs_in = omega arith;
  mixed_in = omega arith;
}

-- the lists stand, wherever they are the same
stands_same : (m : List ℕ) (f : ℕ) (w w' : List ℕ) (l : Lists) → (known_state m f l w').lists ≡ (known_state m f l w).lists → length w' ≡ size → ValidLists w l → ValidLists w' l
unfolding state_of shape_of viewed listed
stands_same m f w w' l e n h = record {
  long = n;
  few_pairs = h.few_pairs;
  few_mixed = h.few_mixed;
  pairs_ascend = subst Ascending (sym (ap (λ x. x.pairs) e)) h.pairs_ascend;
  mixed_ascend = subst Ascending (sym (ap (λ x. x.mixed) e)) h.mixed_ascend;
}

module _ {m : List ℕ} {s : Sheet} {report w : List ℕ} {l : Lists} (known : ValidExpressions m s report w l) where
  f : ℕ
  f = s.function

  sheet : SheetFormed version_1 m s.function
  sheet = known.begins.held.formed.each_sheet s.function known.begins.held.present

  pub initialising : ValidInitialisers m s w
  unfolding version_1 state_of shape_of
  initialising = record {
    sheet = record { stands = known.begins.held.stands; formed = known.begins.held.formed; present = known.begins.held.present };
    room = λ y k.
        let b = bounds m s known.begins.held.stands in
        let a = room_left (known_shape m s.function l) w 16777216 known.low y (omega (arith, b.laid.expressions_are)) in
        omega (arith, a, b.few_initialisers);
  }

  module _ {w₁ : List ℕ} (left : MemoryResult w₁ (through (initialise_line m s.function) (range 0 (initialisers m s.function)) w)) where
    fit : ValidShape (known_shape m s.function l)
    fit = full_fits m s w l known.begins.held known.stand.few_pairs known.stand.few_mixed

    there : (j : ℕ) → 0 ≤ j → j < 0 + initialisers m s.function → initialiser m s.function j < (known_shape m s.function l).known
    unfolding shape_of
    there j a b = sheet.each_initialiser j (omega arith)

    pub seen_initialised : known_state m s.function l w₁ ≡ through (initialise m s.function) (range 0 (initialisers m s.function)) (known_state m s.function l w)
    unfolding state_of
    seen_initialised =
        ap (viewed (known_shape m s.function l)) left.is
        ∙ viewed_initialised (known_shape m s.function l) fit m s.function (initialisers m s.function) 0 w known.begins.long there

    pub kept_initialised : table w₁ ≡ table w
    kept_initialised = ap table left.is ∙ table_initialised (known_shape m s.function l) fit m s.function (initialisers m s.function) 0 w there

    lists_kept : (known_state m s.function l w₁).lists ≡ (known_state m s.function l w).lists
    unfolding initialise refer
    lists_kept = ap (λ x. x.lists) seen_initialised ∙ through_keeps (λ x. x.lists) (initialise m s.function) (λ i x. refl) (range 0 (initialisers m s.function)) (known_state m s.function l w)

    low : CountsBelow m s.function w₁ (bound 0)
    unfolding CountsBelow bound CountsWithin state_of shape_of viewed version_1
    low =
        more_within (16777216 + initialisers m s.function) 16777728 (known_state m s.function l w₁) (omega (arith, sheet.few_initialisers))
        (subst (CountsWithin (16777216 + initialisers m s.function)) (sym seen_initialised)
        (initialised_within m s.function 16777216 (initialisers m s.function) 0 (known_state m s.function l w) known.low))

    pub walk_ready : ValidWalk m s report w₁ l 0
    walk_ready = record {
      held = known.begins.held;
      settled = λ g k. subst (λ t. ValidSection m report g (section_at t g)) (sym kept_initialised) (known.begins.settled g k);
      low = low;
      stand = stands_same m s.function w w₁ l lists_kept left.long known.stand;
    }

    pub walk_extent : Extent m s.function 0 s.statements
    walk_extent = subst (Extent m s.function 0) (sym (bounds m s known.begins.held.stands).laid.statements_are) (whole_table version_1 m s.function sheet)

    -- after the walk
    module _ {w₂ : List ℕ} {r : rust.Result Passed Refusal}
        (went : WalkResult m s report w₁ w₂ s.statements r (walks.walk version_1 m (callees m s.function report w₁) s.function 0 s.statements walks.undisrupted (known_state m s.function l w₁))) where
      went_all : walked_said m s.function w₂ r ≡ walks.walk_all version_1 m (callees m s.function report w) s.function (through (initialise m s.function) (range 0 (initialisers m s.function)) (known_state m s.function l w))
      unfolding walks.walk_all callees
      went_all =
          went.says
          ∙ (ap (λ t. walks.walk version_1 m (told (globals m) report t s.function) s.function 0 s.statements walks.undisrupted (known_state m s.function l w₁)) kept_initialised
          ∙ (ap (λ n. walks.walk version_1 m (callees m s.function report w) s.function 0 n walks.undisrupted (known_state m s.function l w₁)) (bounds m s known.begins.held.stands).laid.statements_are
          ∙ ap (walks.walk version_1 m (callees m s.function report w) s.function 0 (statements m s.function) walks.undisrupted) seen_initialised))

      pub rest_refused : {e : Refusal} → length w₂ ≡ size → r ≡ rust.Err e
          → FunctionResult m s w w₂ (rust.Err e) (after_expressions m (callees m s.function report w) s.function (known_state m s.function l w))
      unfolding after_expressions ◌>>=◌
      rest_refused {e} long q = record {
        says = ap (λ c. c >>= λ a. fine (record { state = through (name m s.function) (range 0 (named m s.function)) a.state; outcome = a.outcome }))
            (sym (ap (walked_said m s.function w₂) q) ∙ went_all);
        stand = tt;
        long = long;
        kept = went.kept ∙ kept_initialised;
      }

      pub rest_ready : {p : Passed} → r ≡ rust.Ok p → ValidWalk m s report w₂ p.lists s.statements
      rest_ready e = subst (ValidWalkAfter m s report w₂ s.statements) e went.on

      pub rest_named : {p : Passed} {w₃ : List ℕ} → r ≡ rust.Ok p → MemoryResult w₃ (through (name_line m s.function) (range 0 (named m s.function)) w₂)
          → FunctionResult m s w w₃ (rust.Ok p) (after_expressions m (callees m s.function report w) s.function (known_state m s.function l w))
      unfolding after_expressions ◌>>=◌ name state_of shape_of
      rest_named {p} {w₃} q left₃ = record {
        says = ap (λ x. fine (record { state = x; outcome = outcome_said p.outcome })) seen_named
            ∙ ap (λ c. c >>= λ a. fine (record { state = through (name m s.function) (range 0 (named m s.function)) a.state; outcome = a.outcome }))
            (sym (ap (walked_said m s.function w₂) q) ∙ went_all);
        stand = stands_same m s.function w₂ w₃ p.lists lists_kept₃ left₃.long ready.stand;
        long = left₃.long;
        kept = kept₃ ∙ (went.kept ∙ kept_initialised);
      }
        where
          ready : ValidWalk m s report w₂ p.lists s.statements
          ready = rest_ready q

          fit₃ : ValidShape (known_shape m s.function p.lists)
          fit₃ = full_fits m s w₂ p.lists ready.held ready.stand.few_pairs ready.stand.few_mixed

          there₃ : (j : ℕ) → 0 ≤ j → j < 0 + named m s.function → named_at m s.function j < (known_shape m s.function p.lists).known
          there₃ j a b = sheet.each_named j (omega arith)

          seen_named : known_state m s.function p.lists w₃ ≡ through (name m s.function) (range 0 (named m s.function)) (known_state m s.function p.lists w₂)
          seen_named =
              ap (viewed (known_shape m s.function p.lists)) left₃.is
              ∙ viewed_all_named (known_shape m s.function p.lists) fit₃ m s.function (named m s.function) 0 w₂ ready.stand.long there₃

          lists_kept₃ : (known_state m s.function p.lists w₃).lists ≡ (known_state m s.function p.lists w₂).lists
          lists_kept₃ = ap (λ x. x.lists) seen_named ∙ through_keeps (λ x. x.lists) (name m s.function) (λ i x. refl) (range 0 (named m s.function)) (known_state m s.function p.lists w₂)

          kept₃ : table w₃ ≡ table w₂
          kept₃ = ap table left₃.is ∙ table_named (known_shape m s.function p.lists) fit₃ m s.function (named m s.function) 0 w₂

-- ---- the expressions before that

-- a section that ends in the report has its first ten bytes there
head_there : (m report : List ℕ) (g at : ℕ) → ValidSection m report g at → at + 10 ≤ length report
unfolding r_section_end r_entries_at r_mixed_at r_pairs_at
head_there m report g at h = omega (arith, h.within)

module _ {m : List ℕ} {s : Sheet} {report w : List ℕ} (b : ValidStart m s report w) where
  pub expressions_asked : asked.FormedSheet m s × asked.ValidSections report (table w) s.function
  expressions_asked = (
    record { stands = b.held.stands; formed = b.held.formed; present = b.held.present },
    λ g k. head_there m report g (section_at (table w) g) (b.settled g k),
  )

  module _ {w₁ : List ℕ} {r : rust.Result Lists Refusal} (stepped : StepResult m s report w w₁ (expressions m s.function) r (all_expressions m s.function (callees m s.function report w))) where
    pub run_refused : {e : Refusal} → length w₁ ≡ size → r ≡ rust.Err e → AnalysisResult m s report w w₁ (rust.Err e)
    unfolding function_run all_expressions after_expressions ◌>>=◌ callees
    run_refused {e} long q = record {
      says =
          ap (λ c. c >>= λ x. after_expressions m (callees m s.function report w) s.function x) (ap (state_said m s.function (expressions m s.function) w₁) (sym q) ∙ stepped.says);
      stand = tt;
      long = long;
      kept = stepped.kept;
    }

    pub run_known : {l : Lists} → r ≡ rust.Ok l → ValidExpressions m s report w₁ l
    unfolding state_of shape_of version_1
    run_known {l} q =
        let ready = subst (ValidStateAfter m s report w₁ (expressions m s.function)) q stepped.on in
        record {
          begins = record {
            held = b.held;
            long = ready.lists.long;
            settled = λ g k. subst (λ t. ValidSection m report g (section_at t g)) (sym stepped.kept) (b.settled g k);
          };
          stand = ready.lists;
          low = more_within (8192 * expressions m s.function) 16777216 (known_state m s.function l w₁)
              (omega (arith, (b.held.formed.each_sheet s.function b.held.present).few_expressions)) ready.low;
        }

    pub run_rest : {l : Lists} {w₂ : List ℕ} {v : rust.Result Passed Refusal} → r ≡ rust.Ok l
        → FunctionResult m s w₁ w₂ v (after_expressions m (callees m s.function report w₁) s.function (known_state m s.function l w₁)) → AnalysisResult m s report w w₂ v
    unfolding function_run all_expressions after_expressions ◌>>=◌ callees state_of shape_of
    run_rest {l} {w₂} {v} q a = record {
      says =
          a.says
          ∙ (ap (λ t. after_expressions m (told (globals m) report t s.function) s.function (known_state m s.function l w₁)) stepped.kept
          ∙ ap (λ c. c >>= λ x. after_expressions m (callees m s.function report w) s.function x) (ap (state_said m s.function (expressions m s.function) w₁) (sym q) ∙ stepped.says));
      stand = a.stand;
      long = a.long;
      kept = a.kept ∙ stepped.kept;
    }
