-- The loop over an expression's operands: before a turn j of them are referred to, and what is left gives the whole.
use Prim.Native.Nat.{ℕ, ◌+◌, ◌*◌, ◌-◌, ◌≤◌, ◌<◌}
use native.Mathlib.Omega.{arith}
use mathlib.Core.Logic.{◌≢◌}
use mathlib.Core.Bool.{Bool, true, false, cond}
use mathlib.Core.Path.{◌≡◌, refl, ap, ◌∙◌, sym}
use mathlib.Core.List.{List, ◌∷◌}
use borrow.Author.Tests.{eqb-false}
use lib.Dec.{eqb}
use lib.ListN.{length}
use Rattle.definitions.specs.Bytes.{range}
use Rattle.definitions.specs.Module.{absent, kind, sub, operand, pooled}
use Rattle.definitions.specs.Checks.{through}
use Rattle.definitions.specs.Roles.{role, use_of}
use Rattle.definitions.specs.Origin.{Origin, nowhere, from_expression, or_else}
use Rattle.definitions.specs.State.{Operand, present, operand_at, operands_of}
use Rattle.definitions.proofs.Loops.{present_left, present_done}
use Rattle.module.specs.declared.Sheet.{Sheet}
use Rattle.module.specs.declared.Expression.{Expression}
use Rattle.module.proofs.Places.{bounds}
use Rattle.memory.specs.Layout.{uses_at, size}
use Rattle.memory.specs.View.{count_at}
use Rattle.memory.specs.Changes.{origin_of_line, mask_of, referred, refer_line, refer_lines, lines_origin}
use Rattle.memory.specs.Facts.{ValidCount, ReferenceResult}
use Rattle.memory.proofs.OperandReferences.{Below, present_below, count_after, lines_origin_kept}
use Rattle.rules_expressions.specs.Facts.{FormedExpression}
use Rattle.rules_expressions.specs.Operands.{with_operand, origin_with, OperandResult, ValidOperands, OperandsResult}
use Rattle.rules_expressions.proofs.FromForm.{operand_is, operand_earlier, pool_there, few}

-- ---- origins

or_else_assoc : (a b c : Origin) → or_else (or_else a b) c ≡ or_else a (or_else b c)
unfolding or_else
or_else_assoc nowhere b c = refl
or_else_assoc (from_expression e) b c = refl

or_else_nowhere : (a : Origin) → or_else a nowhere ≡ a
unfolding or_else
or_else_nowhere nowhere = refl
or_else_nowhere (from_expression e) = refl

-- ---- one operand: absent, or there

pub operand_absent : (w : List ℕ) (y u : ℕ) (found : Origin) → true ≡ eqb y absent → length w ≡ size → OperandResult w w y u found found
unfolding with_operand origin_with
operand_absent w y u found t l = record { is = rw (sym t); long = l; origin = rw (sym t) }

pub operand_there : (w w' : List ℕ) (y u : ℕ) (found a o : Origin) → false ≡ eqb y absent → ReferenceResult w w' y u a → o ≡ or_else found a → OperandResult w w' y u found o
unfolding with_operand origin_with
operand_there w w' y u found a o t r q = record { is = rw (sym t) r.is; long = r.long; origin = rw (sym t) (q ∙ ap (or_else found) r.origin) }

-- ---- all of them

-- the operands of e from place j on, of n
abbrev rest_of : List ℕ → ℕ → ℕ → ℕ → ℕ → List Operand
rest_of m f e n j = present (operand_at m f e) (range j (n - j))

pub record OperandLoop (m : List ℕ) (s : Sheet) (x : Expression) (w₀ w : List ℕ) (found : Origin) (j : ℕ) : Type 0 where
  pub expression : FormedExpression m s x.index.0 x
  pub within : j ≤ x.count
  pub long : length w ≡ size
  pub room : (y : ℕ) → y < x.index.0 → count_at w (9 * y) + (x.count - j) < 4294967296
  pub state : refer_lines (rest_of m s.function x.index.0 x.count j) w ≡ refer_lines (operands_of m s.function x.index.0) w₀
  pub origin : or_else found (lines_origin (rest_of m s.function x.index.0 x.count j) w) ≡ lines_origin (operands_of m s.function x.index.0) w₀

pub operands_start : (m : List ℕ) (s : Sheet) (x : Expression) (w : List ℕ) (found : Origin) → ValidOperands m s w x → length w ≡ size → found ≡ nowhere → OperandLoop m s x w w found 0
unfolding operands_of or_else
operands_start m s x w found v l q =
    let z : x.count - 0 ≡ x.count = omega arith in
    let all : rest_of m s.function x.index.0 x.count 0 ≡ operands_of m s.function x.index.0 =
    ap (λ k. present (operand_at m s.function x.index.0) (range 0 k)) (z ∙ v.expression.is.count_is) in
    record {
      expression = v.expression;
      within = omega arith;
      long = l;
      room = λ y k. omega (arith, v.room y k);
      state = ap (λ os. refer_lines os w) all;
      origin = rw q (ap (λ os. lines_origin os w) all);
    }

module _ (m : List ℕ) (s : Sheet) (x : Expression) (w₀ w : List ℕ) (found : Origin) (j : ℕ) (loop : OperandLoop m s x w₀ w found j) where
  pub operands_done : x.count ≤ j → OperandsResult m s.function x.index.0 w₀ w found
  unfolding refer_lines lines_origin through
  operands_done k =
      let l = present_done (operand_at m s.function x.index.0) j x.count k in
      record {
        is = ap (λ os. refer_lines os w) (sym l) ∙ loop.state;
        long = loop.long;
        origin = sym (or_else_nowhere found) ∙ ap (λ os. or_else found (lines_origin os w)) (sym l) ∙ loop.origin;
      }

  module _ (lt : j < x.count) where
    pub operand_pooled : x.first + j < s.operands
    operand_pooled = omega (arith, pool_there m s x.index.0 x loop.expression)

    pub operand_fits : x.first + j < 65536
    operand_fits = omega (arith, operand_pooled, (bounds m s loop.expression.sheet.stands).few_operands)

    module _ (y : ℕ) (read : y ≡ pooled m s.function (x.first + j)) where
      y_is : y ≡ operand m s.function x.index.0 j
      y_is = read ∙ operand_is m s x.index.0 x loop.expression j

      earlier : y ≢ absent → y < x.index.0
      earlier n = rw y_is (operand_earlier m s x.index.0 x loop.expression j lt (λ q. n (y_is ∙ q)))

      pub operand_countable : y ≢ absent → ValidCount w y
      unfolding size
      operand_countable n = record {
        long = loop.long;
        here = omega (arith, earlier n, few m s x.index.0 x loop.expression);
        room = omega (arith, loop.room y (earlier n));
      }

      -- what is left, where the operand is absent and where it is there
      left_none : eqb y absent ≡ true → rest_of m s.function x.index.0 x.count j ≡ rest_of m s.function x.index.0 x.count (j + 1)
      unfolding operand_at
      left_none t =
          present_left (operand_at m s.function x.index.0) j x.count lt
          ∙ ap (λ b. cond b (rest_of m s.function x.index.0 x.count (j + 1)) (operand_at m s.function x.index.0 j ∷ rest_of m s.function x.index.0 x.count (j + 1)))
          (ap (λ z. eqb z absent) (sym y_is) ∙ t)

      left_one : eqb y absent ≡ false
          → rest_of m s.function x.index.0 x.count j ≡ operand_at m s.function x.index.0 j ∷ rest_of m s.function x.index.0 x.count (j + 1)
      unfolding operand_at
      left_one t =
          present_left (operand_at m s.function x.index.0) j x.count lt
          ∙ ap (λ b. cond b (rest_of m s.function x.index.0 x.count (j + 1)) (operand_at m s.function x.index.0 j ∷ rest_of m s.function x.index.0 x.count (j + 1)))
          (ap (λ z. eqb z absent) (sym y_is) ∙ t)

      -- all lines that are left stand before the uses
      rest_below : Below 2048 (rest_of m s.function x.index.0 x.count (j + 1))
      unfolding operand_at
      rest_below =
          present_below 2048 (operand_at m s.function x.index.0) (j + 1) (x.count - (j + 1))
          (λ i a b q. omega (arith, operand_earlier m s x.index.0 x loop.expression i (omega arith) q, few m s x.index.0 x loop.expression))

      module _ (w' : List ℕ) (u : ℕ) (o : Origin) (marks : (t : ℕ) → u ≡ mask_of (use_of (role x.kind t j))) (d : OperandResult w w' y u found o) where
        line_is : referred u w y ≡ refer_line (operand_at m s.function x.index.0 j) w
        unfolding refer_line operand_at
        line_is =
            ap (λ v. referred v w y) (marks (sub m s.function x.index.0) ∙ ap (λ k. mask_of (use_of (role k (sub m s.function x.index.0) j))) loop.expression.is.kind_is)
            ∙ ap (referred (mask_of (use_of (role (kind m s.function x.index.0) (sub m s.function x.index.0) j))) w) y_is

        room_after : (z : ℕ) → z < x.index.0 → count_at w' (9 * z) + (x.count - (j + 1)) < 4294967296
        unfolding with_operand uses_at size
        room_after z k = go (eqb y absent) refl
          where
            go : (b : Bool) → eqb y absent ≡ b → count_at w' (9 * z) + (x.count - (j + 1)) < 4294967296
            go true t =
                let same : w' ≡ w = d.is ∙ ap (λ b. cond b w (referred u w y)) t in
                rw same (omega (arith, loop.room z k))
            go false t =
                let there : w' ≡ referred u w y = d.is ∙ ap (λ b. cond b w (referred u w y)) t in
                let small = few m s x.index.0 x loop.expression in
                let before = earlier (eqb-false y absent t) in
                let l = loop.long in
                rw there (omega (arith, loop.room z k, count_after u w y z (omega arith) (omega arith)))

        pub operands_again : OperandLoop m s x w₀ w' o (j + 1)
        unfolding with_operand origin_with refer_lines lines_origin through operand_at uses_at
        operands_again = go (eqb y absent) refl
          where
            go : (b : Bool) → eqb y absent ≡ b → OperandLoop m s x w₀ w' o (j + 1)
            go true t =
                let same : w' ≡ w = d.is ∙ ap (λ b. cond b w (referred u w y)) t in
                let kept : o ≡ found = d.origin ∙ ap (λ b. cond b found (or_else found (origin_of_line w y))) t in
                let rest = rest_of m s.function x.index.0 x.count (j + 1) in
                record {
                  expression = loop.expression;
                  within = omega arith;
                  long = d.long;
                  room = room_after;
                  state = ap (refer_lines rest) same ∙ ap (λ os. refer_lines os w) (sym (left_none t)) ∙ loop.state;
                  origin = ap (λ v. or_else o (lines_origin rest v)) same ∙ ap (λ v. or_else v (lines_origin rest w)) kept
                      ∙ ap (λ os. or_else found (lines_origin os w)) (sym (left_none t)) ∙ loop.origin;
                }
            go false t =
                let there : w' ≡ referred u w y = d.is ∙ ap (λ b. cond b w (referred u w y)) t in
                let joined : o ≡ or_else found (origin_of_line w y) = d.origin ∙ ap (λ b. cond b found (or_else found (origin_of_line w y))) t in
                let rest = rest_of m s.function x.index.0 x.count (j + 1) in
                record {
                  expression = loop.expression;
                  within = omega arith;
                  long = d.long;
                  room = room_after;
                  state = ap (refer_lines rest) (there ∙ line_is) ∙ ap (λ os. refer_lines os w) (sym (left_one t)) ∙ loop.state;
                  origin = ap (λ v. or_else o (lines_origin rest v)) there
                      ∙ ap (or_else o) (lines_origin_kept 2048 (omega arith) u w y rest rest_below)
                      ∙ ap (λ v. or_else v (lines_origin rest w)) joined
                      ∙ or_else_assoc found (origin_of_line w y) (lines_origin rest w)
                      ∙ ap (λ v. or_else found (or_else (origin_of_line w v) (lines_origin rest w))) y_is
                      ∙ ap (λ os. or_else found (lines_origin os w)) (sym (left_one t))
                      ∙ loop.origin;
                }
