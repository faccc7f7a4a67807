-- An expression's line, written: the state is the definitions' state with one expression more (01, 3.5 to 3.8).
use Prim.Native.Nat.{ℕ, ◌≤◌, ◌<◌}
use native.Mathlib.Omega.{arith}
use mathlib.Core.Logic.{◌≢◌}
use mathlib.Core.Option.{Option}
use mathlib.Core.Path.{◌≡◌, refl, ap, ◌∙◌, sym, subst}
use mathlib.Core.Bool.{cond}
use mathlib.Core.List.{List, [], ◌∷◌, ◌++◌}
use lib.ListN.{length}
use Rattle.definitions.specs.Bytes.{range}
use Rattle.definitions.specs.Module.{globals, number, operand_count}
use Rattle.definitions.specs.Checks.{through}
use Rattle.definitions.specs.Origin.{Origin, nowhere, from_expression, origin_from, origin_number}
use Rattle.definitions.specs.Report.{global_number, global_from, r_origin, r_requirements, r_summary}
use Rattle.definitions.specs.State.{State, Known, Operand, present, operand_at, operands_of, refer, refer_all}
use Rattle.definitions.specs.Summary.{Section, Summary, summary_of}
use Rattle.definitions.specs.Expressions.{first_origin, own_origin, origin_of, own_requirements, requirements_of, with_expression}
use Rattle.vocabulary.proofs.Origins.{number_from, global_number_from}
use Rattle.module.specs.declared.Sheet.{Sheet}
use Rattle.module.specs.declared.Expression.{Expression}
use Rattle.memory.specs.Layout.{uses_at, pairs_at, size}
use Rattle.memory.specs.View.{Shape, viewed}
use Rattle.memory.specs.Facts.{ValidShape, MemoryResult}
use Rattle.memory.specs.Changes.{with_line, refer_lines, lines_origin, table, section_at}
use Rattle.memory.proofs.View.{one_more, state_is}
use Rattle.memory.proofs.StoreState.{viewed_line}
use Rattle.memory.proofs.Sections.{length_line, line_outside, table_before, told_summary}
use Rattle.memory.proofs.OperandReferences.{Below, present_below, viewed_lines, table_lines, lines_origin_is}
use Rattle.rules_pairs.specs.States.{callees}
use Rattle.rules_expressions.specs.Facts.{FormedExpression, LineResult}
use Rattle.rules_expressions.specs.Operands.{OperandsResult}
use Rattle.rules_expressions.proofs.FromForm.{kind_here, operand_earlier, few, callee_there, leaf_count}
use Rattle.rules_expressions.proofs.Origins.{kind_not, own_none, requires_nothing}

-- references leave what is known and the lists as they are
refer_all_known : (os : List Operand) (s : State) → (refer_all os s).known ≡ s.known
unfolding refer_all through refer
refer_all_known [] s = refl
refer_all_known (o ∷ os) s = refer_all_known os (refer o s)

refer_all_lists : (os : List Operand) (s : State) → (refer_all os s).lists ≡ s.lists
unfolding refer_all through refer
refer_all_lists [] s = refl
refer_all_lists (o ∷ os) s = refer_all_lists os (refer o s)

known_is : {o o' : Origin} {r r' : ℕ} {g g' : Option ℕ} → o ≡ o' → r ≡ r' → g ≡ g'
    → ◌≡◌ {A = Known} (record { origin = o; requirements = r; assignable = g }) (record { origin = o'; requirements = r'; assignable = g' })
known_is a b c = cc

-- a line behind a state whose operands have counted and marked
assembled : (os : List Operand) (s s₁ : State) (k k' : Known) → s₁ ≡ refer_all os s → k ≡ k'
    → ◌≡◌ {A = State} (record { known = s₁.known ++ (k ∷ []); counts = s₁.counts; uses = s₁.uses; lists = s₁.lists })
    (record { known = s.known ++ (k' ∷ []); counts = (refer_all os s).counts; uses = (refer_all os s).uses; lists = s.lists })
assembled os s s₁ k k' p q =
    state_is (ap (λ (z : State). z.known ++ (k ∷ [])) p ∙ ap (λ l. l ++ (k ∷ [])) (refer_all_known os s) ∙ ap (λ z. s.known ++ (z ∷ [])) q)
    (ap (λ (z : State). z.counts) p) (ap (λ (z : State). z.uses) p) (ap (λ (z : State). z.lists) p ∙ refer_all_lists os s)

module _ (m : List ℕ) (s : Sheet) (e : ℕ) (x : Expression) (fx : FormedExpression m s e x) where
  -- ---- the operands that were referred to

  operands_below : Below e (operands_of m s.function e)
  unfolding operands_of operand_at
  operands_below =
      present_below e (operand_at m s.function e) 0 (operand_count m s.function e)
      (λ j a b q. operand_earlier m s e x fx j (omega (arith, fx.is.count_is)) q)

  known_below : (k : Shape) → k.known ≡ e → Below k.known (operands_of m s.function e)
  known_below k p = subst (λ n. Below n (operands_of m s.function e)) (sym p) operands_below

  -- a leaf has none
  operands_none : x.kind ≤ 4 → operands_of m s.function e ≡ []
  unfolding operands_of present range
  operands_none k = rw (sym fx.is.count_is ∙ leaf_count m s e x fx k)

  pub leaf_operands : (w : List ℕ) → x.kind ≤ 4 → length w ≡ size → OperandsResult m s.function e w w nowhere
  unfolding refer_lines lines_origin through
  leaf_operands w k l = record { is = rw (operands_none k); long = l; origin = rw (operands_none k) }

  -- ---- what the line says

  -- 3.5, 3.6 of a leaf that is no CallResult: its own number or none, and no requirements
  module _ (done : List Section) (k : x.kind ≤ 4) (n : x.kind ≢ 4) where
    pub leaf_origin_is : (o : Origin) → o ≡ cond (own_origin m s.function e) (from_expression e) nowhere → (z : State) → o ≡ origin_of m done s.function e z
    unfolding origin_of first_origin
    leaf_origin_is o q z = rw (operands_none k, kind_not m s.function e x fx.is 4 n) q

    pub leaf_requirements_are : (r : ℕ) → r ≡ 0 → r ≡ requirements_of m done s.function e
    unfolding requirements_of
    leaf_requirements_are r q =
        rw (kind_not m s.function e x fx.is 4 n, sym fx.is.kind_is, sym fx.is.sub_is)
        (requires_nothing x.kind x.sub r (λ z. omega arith) (λ z. omega arith) (λ z. omega arith) (λ z. omega arith) q)

  -- of a CallResult: those of its function's section, which begins at `at` of the report b
  module _ (b w : List ℕ) (at : ℕ) (k : x.kind ≡ 4) (place : at ≡ section_at (table w) x.number) where
    summary_is : summary_of (callees m s.function b w) (number m s.function e) ≡ r_summary (globals m) b at
    unfolding callees
    summary_is =
        told_summary (globals m) b (table w) s.function (number m s.function e) (omega (arith, callee_there m s e x fx k, fx.is.number_is))
        ∙ ap (λ i. r_summary (globals m) b (section_at (table w) i)) (sym fx.is.number_is) ∙ ap (r_summary (globals m) b) (sym place)

    pub call_origin_is : (o : Origin) → o ≡ r_origin b at → (z : State) → o ≡ origin_of m (callees m s.function b w) s.function e z
    unfolding origin_of r_summary
    call_origin_is o q z =
        rw (sym (own_none m s.function e x fx.is (λ y. omega arith) (λ y. omega arith) (λ y. omega arith)), kind_here m s e x fx 4 k)
        (q ∙ sym (ap (λ (y : Summary). y.origin) summary_is))

    pub call_requirements_are : (r : ℕ) → r ≡ r_requirements b at → r ≡ requirements_of m (callees m s.function b w) s.function e
    unfolding requirements_of r_summary
    call_requirements_are r q = rw (kind_here m s e x fx 4 k) (q ∙ sym (ap (λ (y : Summary). y.requirements) summary_is))

  -- of an expression with operands: the first origin among them, and what its kind requires
  module _ (done : List Section) (k : 4 < x.kind) where
    pub first_origin_is : (w : List ℕ) (o : Origin) → o ≡ lines_origin (operands_of m s.function e) w → (h : Shape) → h.known ≡ e → o ≡ origin_of m done s.function e (viewed h w)
    unfolding origin_of
    first_origin_is w o q h p =
        rw (sym (own_none m s.function e x fx.is (λ y. omega arith) (λ y. omega arith) (λ y. omega arith)), kind_not m s.function e x fx.is 4 (λ y. omega arith))
        (q ∙ lines_origin_is h w (operands_of m s.function e) (known_below h p))

    pub own_requirements_are : (r : ℕ) → r ≡ own_requirements x.kind x.sub → r ≡ requirements_of m done s.function e
    unfolding requirements_of
    own_requirements_are r q = rw (kind_not m s.function e x fx.is 4 (λ y. omega arith), sym fx.is.kind_is, sym fx.is.sub_is) q

  -- ---- the line: o, r and a are what was written, as codes
  module _ (done : List Section) (w w₁ : List ℕ) (long : length w ≡ size) (found : Origin) (took : OperandsResult m s.function e w w₁ found)
      (o r a : ℕ) (g : Option ℕ) (w₂ : List ℕ)
      (origin_is : (h : Shape) → h.known ≡ e → origin_from o ≡ origin_of m done s.function e (viewed h w))
      (requirements_are : r ≡ requirements_of m done s.function e) (global_is : global_from a ≡ g)
      (left : MemoryResult w₂ (with_line w₁ e (origin_number (origin_from o)) r (global_number (global_from a)))) where
    same_code : w₂ ≡ with_line w₁ e o r a
    same_code = left.is ∙ ap (λ y. with_line w₁ e y r (global_number (global_from a))) (number_from o) ∙ ap (with_line w₁ e o r) (global_number_from a)

    table_same : table w₂ ≡ table w
    unfolding uses_at pairs_at
    table_same =
        ap table same_code
        ∙ table_before w₁ (with_line w₁ e o r a) (line_outside w₁ e o r a (omega (arith, few m s e x fx))) (length_line w₁ e o r a)
        ∙ ap table took.is
        ∙ table_lines e (omega (arith, few m s e x fx)) (operands_of m s.function e) w operands_below

    state_after : (h : Shape) → ValidShape h → h.known ≡ e → e < h.expressions
        → viewed (one_more h) w₂ ≡ with_expression m done s.function e (viewed h w).lists g (viewed h w)
    unfolding with_expression
    state_after h fit p q =
        ap (viewed (one_more h)) same_code
        ∙ ap (λ n. viewed (one_more h) (with_line w₁ n o r a)) (sym p)
        ∙ viewed_line h fit w₁ took.long (omega arith) o r a
        ∙ assembled (operands_of m s.function e) (viewed h w) (viewed h w₁) _ _
        (ap (viewed h) took.is ∙ viewed_lines h fit (operands_of m s.function e) w long (known_below h p))
        (known_is (origin_is h p) requirements_are global_is)

    pub line_result : LineResult m s.function done w w₂ e g
    line_result = record { long = left.long; kept = table_same; state = state_after }
