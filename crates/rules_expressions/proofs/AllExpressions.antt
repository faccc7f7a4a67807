-- One expression after another (01, 6.1): what the next one asks is there, and the expressions that are left give the
-- outcome of all.
use Prim.Native.Nat.{ℕ, ◌+◌, ◌*◌, ◌-◌, ◌≤◌, ◌<◌}
use native.Mathlib.Omega.{arith}
use mathlib.Core.Path.{◌≡◌, refl, ap, ◌∙◌, sym, subst}
use mathlib.Core.List.{List}
use lib.ListN.{length}
use Rattle.definitions.specs.Bytes.{range}
use Rattle.definitions.specs.Limits.{version_1}
use Rattle.definitions.specs.Module.{globals, expressions, operand_count}
use Rattle.definitions.specs.Checks.{fine, ◌>>=◌, each}
use Rattle.definitions.specs.State.{start}
use Rattle.definitions.specs.Expressions.{own_global, expression_step}
use Rattle.definitions.proofs.Bounds.{CountsWithin, more_within, expression_within, operands_pooled, start_within}
use Rattle.definitions.proofs.Runs.{run_left, run_done}
use Rattle.vocabulary.specs.declared.refusal.Refusal as code
use Rattle.std.specs.Prelude as rust
use Rattle.module.specs.declared.Sheet.{Sheet}
use Rattle.module.specs.declared.Expression.{Expression}
use Rattle.module.specs.Sheets.{IsExpression}
use Rattle.module.proofs.Places.{bounds}
use Rattle.memory.specs.Layout.{uses_at, pairs_at, size}
use Rattle.memory.specs.View.{viewed}
use Rattle.memory.specs.Facts.{MemoryResult}
use Rattle.memory.specs.Changes.{table, told, begun}
use Rattle.memory.proofs.OperandReferences.{room_left}
use Rattle.memory.proofs.StretchState.{empty, viewed_start, table_begun}
use Rattle.rules_pairs.specs.declared.lists.Lists.{Lists}
use Rattle.rules_pairs.specs.Lists.{ValidListsAfter}
use Rattle.rules_pairs.specs.States.{shape_of, state_of, callees}
use Rattle.rules_pairs.proofs.Views.{stand_none}
use Rattle.rules_expressions.specs.Facts.{FormedSheet, FormedExpression, ValidSections, LineResult}
use Rattle.rules_expressions.specs.Steps.{state_said, ValidExpression, ExpressionResult, ValidState, ValidStateAfter, StepResult, all_expressions}
use Rattle.rules_expressions.proofs.FromForm.{sheet_of, count_is}
use Rattle.rules_expressions.proofs.AccessChecks.{access_other}
use Rattle.rules_expressions.proofs.CarriedGlobal.{leaf_carries}
use Rattle.rules_expressions.proofs.OneExpression.{samples_not, complete_line, sample_done, access_done}

-- ---- one expression
module _ (m : List ℕ) (s : Sheet) (b w : List ℕ) (e : ℕ) (l : Lists) (h : ValidState m s b w e l) (lt : e < s.expressions) where
  in_table : e < expressions m s.function
  in_table = omega (arith, lt, count_is m s h.sheet)

  few_operands : operand_count m s.function e ≤ 8192
  unfolding version_1
  few_operands =
      omega (arith, operands_pooled version_1 m s.function e (sheet_of m s h.sheet) in_table, (sheet_of m s h.sheet).few_operands)

  valid_after : (w' : List ℕ) (r : rust.Result Lists code.Refusal)
      → state_said m s.function (e + 1) w' r ≡ expression_step version_1 m (callees m s.function b w) s.function e (state_of m s.function e l w)
      → ValidListsAfter r w' → table w' ≡ table w → ValidStateAfter m s b w' (e + 1) r
  valid_after w' (rust.Err r) q v k = tt
  valid_after w' (rust.Ok l') q v k = record {
    sheet = h.sheet;
    sections = subst (λ t. ValidSections b t s.function) (sym k) h.sections;
    lists = v;
    low = more_within (8192 * e + operand_count m s.function e) (8192 * (e + 1)) (state_of m s.function (e + 1) l' w') (omega (arith, few_operands))
        (expression_within version_1 m s.function (callees m s.function b w) (8192 * e) e (state_of m s.function e l w) (state_of m s.function (e + 1) l' w') (sym q) h.low);
  }

  -- its record x, by its own number
  module _ (x : Expression) (is : IsExpression m s.function e x) where
    pub formed_here : FormedExpression m s x.index.0 x
    formed_here = subst (λ i. FormedExpression m s i x) (sym is.index_is) (record { sheet = h.sheet; there = lt; is = is })

    pub valid_here : ValidExpression m s w x l
    unfolding state_of shape_of version_1
    valid_here = record {
      operands = record {
        expression = formed_here;
        room = λ y k. omega (arith, room_left (shape_of m s.function e l) w (8192 * e) h.low y (omega (arith, in_table, is.index_is)), few_operands, is.count_is, in_table, (sheet_of m s h.sheet).few_expressions);
      };
      lists = h.lists;
    }

    pub step_result : (w' : List ℕ) (r : rust.Result Lists code.Refusal)
        → ExpressionResult m s.function w w' x.index.0 r (expression_step version_1 m (callees m s.function b w) s.function x.index.0 (state_of m s.function x.index.0 l w))
        → StepResult m s b w w' (e + 1) r (expression_step version_1 m (callees m s.function b w) s.function e (state_of m s.function e l w))
    step_result w' r d =
        let says = rw is.index_is at d.says in
        record { says = says; on = valid_after w' r says d.lists d.kept; kept = d.kept }

    -- a leaf has no access checks, no sampling and nothing to carry but its own
    pub leaf_result : (w' : List ℕ) → x.kind ≤ 4 → LineResult m s.function (callees m s.function b w) w w' x.index.0 (own_global m s.function x.index.0)
        → StepResult m s b w w' (e + 1) (rust.Ok l) (expression_step version_1 m (callees m s.function b w) s.function e (state_of m s.function e l w))
    leaf_result w' k d =
        step_result w' (rust.Ok l)
        (access_done m s w x l valid_here (callees m s.function b w) (rust.Ok tt)
        (λ g _. access_other m s.function x.index.0 x formed_here.is (viewed g w) (λ q. omega arith)) w' (rust.Ok l) refl
        (sample_done m s w x l valid_here (callees m s.function b w) w (rust.Ok l) (samples_not m s x.index.0 x l w formed_here h.lists (λ q. omega arith)) l w' (rust.Ok l) refl
        (complete_line m s w x l valid_here (callees m s.function b w) (own_global m s.function x.index.0) w'
        (leaf_carries m s x.index.0 x formed_here (state_of m s.function x.index.0 l w) k) d)))

-- ---- where a function begins

pub begin_room : (m : List ℕ) (s : Sheet) → FormedSheet m s → (x g : ℕ) → x ≡ s.expressions → g ≡ globals m → (9 * x ≤ uses_at) × (uses_at + g ≤ size)
unfolding version_1 uses_at size
begin_room m s h x g p q = (omega (arith, (bounds m s h.stands).few_expressions), omega (arith, h.formed.few_globals))

-- all of them: before a turn e are known, and those that are left give the whole
pub record ExpressionLoop (m : List ℕ) (s : Sheet) (b w₀ w : List ℕ) (l : Lists) (e : ℕ) : Type 0 where
  pub within : e ≤ s.expressions
  pub state : ValidState m s b w e l
  pub kept : table w ≡ table w₀
  pub rest : each (expression_step version_1 m (callees m s.function b w₀) s.function) (range e (s.expressions - e)) (state_of m s.function e l w)
      ≡ all_expressions m s.function (callees m s.function b w₀)

module _ (m : List ℕ) (s : Sheet) (b w w' : List ℕ) (h : FormedSheet m s) (l : length w ≡ size) (x g : ℕ) (p : x ≡ s.expressions) (q : g ≡ globals m) (d : MemoryResult w' (begun x g w)) where
  counts_in : 9 * expressions m s.function ≤ uses_at
  unfolding version_1 uses_at
  counts_in = omega (arith, (sheet_of m s h).few_expressions)

  globals_in : uses_at + globals m ≤ pairs_at
  unfolding version_1 uses_at pairs_at
  globals_in = omega (arith, h.formed.few_globals)

  begun_is : w' ≡ begun (expressions m s.function) (globals m) w
  begun_is = d.is ∙ ap (λ y. begun y g w) (p ∙ count_is m s h) ∙ ap (λ y. begun (expressions m s.function) y w) q

  begun_kept : table w' ≡ table w
  begun_kept = ap table begun_is ∙ table_begun (expressions m s.function) (globals m) w l counts_in globals_in

  begun_state : state_of m s.function 0 (record { pairs = 0; mixed = 0 }) w' ≡ start m s.function
  unfolding state_of shape_of
  begun_state = ap (viewed (empty (expressions m s.function) (globals m))) begun_is ∙ viewed_start m s.function w l counts_in globals_in

  pub expressions_start : ValidSections b (table w) s.function → ExpressionLoop m s b w' w' (record { pairs = 0; mixed = 0 }) 0
  unfolding all_expressions
  expressions_start sections =
      let z : 8192 * 0 ≡ 0 = omega arith in
      let n : s.expressions - 0 ≡ expressions m s.function = omega (arith, count_is m s h) in
      record {
        within = omega arith;
        state = record {
          sheet = h;
          sections = subst (λ t. ValidSections b t s.function) (sym begun_kept) sections;
          lists = stand_none w' d.long;
          low = subst (λ k. CountsWithin k (state_of m s.function 0 (record { pairs = 0; mixed = 0 }) w')) (sym z)
              (subst (CountsWithin 0) (sym begun_state) (start_within m s.function));
        };
        kept = refl;
        rest = ap (each (expression_step version_1 m (callees m s.function b w') s.function) (range 0 (s.expressions - 0))) begun_state
            ∙ ap (λ k. each (expression_step version_1 m (callees m s.function b w') s.function) (range 0 k) (start m s.function)) n;
      }

  pub since_begin : (w'' : List ℕ) (n : ℕ) (r : rust.Result Lists code.Refusal) → StepResult m s b w' w'' n r (all_expressions m s.function (callees m s.function b w'))
      → StepResult m s b w w'' n r (all_expressions m s.function (callees m s.function b w))
  unfolding callees
  since_begin w'' n r a = record {
    says = a.says ∙ ap (λ t. all_expressions m s.function (told (globals m) b t s.function)) begun_kept;
    on = a.on;
    kept = a.kept ∙ begun_kept;
  }

-- ---- a turn, and the end
module _ (m : List ℕ) (s : Sheet) (b w₀ w : List ℕ) (l : Lists) (e : ℕ) (g : ExpressionLoop m s b w₀ w l e) where
  module _ (w' : List ℕ) (r : rust.Result Lists code.Refusal) (k : e < s.expressions)
      (d : StepResult m s b w w' (e + 1) r (expression_step version_1 m (callees m s.function b w) s.function e (state_of m s.function e l w))) where
    -- the step that was taken, and the rest
    step_said_is : state_said m s.function (e + 1) w' r ≡ expression_step version_1 m (callees m s.function b w₀) s.function e (state_of m s.function e l w)
    unfolding callees
    step_said_is = d.says ∙ ap (λ t. expression_step version_1 m (told (globals m) b t s.function) s.function e (state_of m s.function e l w)) g.kept

    left_is : (state_said m s.function (e + 1) w' r >>= λ z. each (expression_step version_1 m (callees m s.function b w₀) s.function) (range (e + 1) (s.expressions - (e + 1))) z)
        ≡ all_expressions m s.function (callees m s.function b w₀)
    left_is =
        ap (λ o. o >>= λ z. each (expression_step version_1 m (callees m s.function b w₀) s.function) (range (e + 1) (s.expressions - (e + 1))) z) step_said_is
        ∙ sym (run_left (expression_step version_1 m (callees m s.function b w₀) s.function) e s.expressions (state_of m s.function e l w) k)
        ∙ g.rest

    pub expressions_again : (l' : Lists) → r ≡ rust.Ok l' → ExpressionLoop m s b w₀ w' l' (e + 1)
    unfolding ◌>>=◌
    expressions_again l' q = record {
      within = omega arith;
      state = subst (ValidStateAfter m s b w' (e + 1)) q d.on;
      kept = d.kept ∙ g.kept;
      rest = ap (λ y. state_said m s.function (e + 1) w' y >>= λ z. each (expression_step version_1 m (callees m s.function b w₀) s.function) (range (e + 1) (s.expressions - (e + 1))) z) (sym q)
          ∙ left_is;
    }

    pub expressions_refused : (x : code.Refusal) → r ≡ rust.Err x
        → StepResult m s b w₀ w' (expressions m s.function) (rust.Err x) (all_expressions m s.function (callees m s.function b w₀))
    unfolding ◌>>=◌
    expressions_refused x q = record {
      says = ap (λ y. state_said m s.function (e + 1) w' y >>= λ z. each (expression_step version_1 m (callees m s.function b w₀) s.function) (range (e + 1) (s.expressions - (e + 1))) z) (sym q)
          ∙ left_is;
      on = tt;
      kept = d.kept ∙ g.kept;
    }

  pub expressions_done : s.expressions ≤ e → StepResult m s b w₀ w (expressions m s.function) (rust.Ok l) (all_expressions m s.function (callees m s.function b w₀))
  expressions_done k =
      let n : e ≡ expressions m s.function = omega (arith, g.within, count_is m s g.state.sheet) in
      record {
        says = ap (λ i. fine (state_of m s.function i l w)) (sym n)
            ∙ sym (run_done (expression_step version_1 m (callees m s.function b w₀) s.function) e s.expressions (state_of m s.function e l w) k)
            ∙ g.rest;
        on = subst (λ i. ValidState m s b w i l) n g.state;
        kept = g.kept;
      }
