-- An expression whose sub is zero, whose number is low enough and whose operands are all earlier passes every check
-- of 01, 2.6.
use Prim.Native.Nat.{ℕ, ◌+◌, ◌≤◌, ◌<◌}
use native.Mathlib.Omega.{arith}
use mathlib.Core.Path.{◌≡◌, refl, ◌∙◌, subst}
use mathlib.Core.List.{List}
use mathlib.Core.Bool.{true, false, ◌&&◌, ◌||◌, not}
use lib.Dec.{ltb, leb, eqb}
use lib.ListN.{get_or}
use borrow.Author.Tests.{eqb-true, ltb-true, ltb-false, lt-leb, le-leb, le-ltb, ne_eqb}
use Rattle.definitions.specs.Module as file
use Rattle.definitions.specs.Module.{pooled, absent}
use Rattle.definitions.specs.Checks.{fine, first}
use Rattle.definitions.specs.Roles.{has_sub, has_number}
use Rattle.definitions.specs.Form.{expression_form}
use Rattle.module.specs.declared.Sheet.{Sheet}
use Rattle.module.specs.declared.Expression.{Expression}
use Rattle.module.specs.Sheets.{ValidSheet, IsExpression}
use Rattle.form_records.specs.OperandChecks.{operands_found}
use Rattle.form_records.proofs.CheckLists.{by_bool, pass, pass_last}
use Rattle.form_records.proofs.OperandScans.{any_none_below}
use Rattle.form_expressions.specs.Groups.{unknown_code, misshapen, unnamed}
use Rattle.form_expressions.specs.Operands.{misplaced_at, late_at}
use Rattle.form_expressions.specs.Required.{required_of, ValidFields}
use Rattle.form_expressions.specs.QuickTables.{number_below}
use Rattle.form_expressions.proofs.KindTables.{all_below, at_each, must_be_there, may_be_there}
use Rattle.form_expressions.proofs.Grouping.{expression_groups}

-- 4.1 every kind has the sub zero
pub sub_zero : (k s : ℕ) → s ≡ 0 → has_sub k s ≡ true
unfolding has_sub
sub_zero k s e = rw e (by_bool (eqb k 5) (λ p. rw p) (λ p. rw p (by_bool (eqb k 13) (λ q. rw q) (λ q. rw q))))

-- 1.9 and 2.6 the number is zero where it has no use, and names something where it has one
module _ (a g f k n : ℕ) (lt : n < get_or (number_below a g f) k 0) where
  one_where_idle : k ≤ 18 → has_number k ≡ false → get_or (number_below a g f) k 0 ≡ 1
  unfolding all_below has_number number_below
  one_where_idle h e =
      let cell = at_each (λ i. has_number i || eqb (get_or (number_below a g f) i 0) 1) 19 refl k (omega arith) in
      eqb-true _ _ (rw e at cell)

  number_idle : k ≤ 18 → (not (has_number k) && ltb 0 n) ≡ false
  number_idle h =
      by_bool (has_number k)
      (λ p. rw p)
      (λ p. let one = one_where_idle h p in rw (p, le-ltb 0 n (omega arith)))

  below_at : (i : ℕ) → eqb k i ≡ true → n < get_or (number_below a g f) i 0
  below_at i e = subst (λ (x : ℕ). n < get_or (number_below a g f) x 0) (eqb-true k i e) lt

  names_one : (i b : ℕ) → get_or (number_below a g f) i 0 ≡ b → (eqb k i && leb b n) ≡ false
  names_one i b e = by_bool (eqb k i) (λ p. let h = below_at i p in rw (p, lt-leb b n (omega arith))) (λ p. rw p)

  number_names : ((eqb k 1 && leb a n) || ((eqb k 2 && leb g n) || (eqb k 4 && leb f n))) ≡ false
  unfolding number_below
  number_names = rw (names_one 1 a refl, names_one 2 g refl, names_one 4 f refl)

-- what is enough for the operands of a record that is no sampling
pub record ValidOperands (m : List ℕ) (f operands : ℕ) (x : Expression) : Type 0 where
  pub no_sampling : x.kind ≡ 13 → ⊥
  pub first_idle : x.count ≡ 0 → x.first ≡ 0
  pub within : x.first + x.count ≤ operands
  pub each_earlier : (j : ℕ) → j < x.count → pooled m f (x.first + j) < x.index.0

module _ (m : List ℕ) (f operands : ℕ) (x : Expression) (v : ValidFields x) (o : ValidOperands m f operands x) (small_index : x.index.0 ≤ 65535) (small_count : x.count < 65536) where
  present : (j : ℕ) → j < x.count → eqb (pooled m f (x.first + j)) 65535 ≡ false
  present j h = ne_eqb (pooled m f (x.first + j)) 65535 (λ q. (let w = o.each_earlier j h in omega arith))

  none_misplaced : (j : ℕ) → j < x.count → misplaced_at m f x j ≡ false
  unfolding misplaced_at absent
  none_misplaced j h =
      by_bool (ltb j (required_of x.kind))
      (λ p. must_be_there x.kind x.sub x.count j (pooled m f (x.first + j)) v.kind_known v.sub_known v.count_fits h small_count (ltb-true _ _ p) ∙ present j h)
      (λ p. may_be_there x.kind x.sub x.count j (pooled m f (x.first + j)) v.kind_known v.sub_known v.count_fits h small_count (ltb-false _ _ p) o.no_sampling)

  none_late : (j : ℕ) → j < x.count → late_at m f x j ≡ false
  unfolding late_at
  none_late j h = rw (lt-leb x.index.0 (pooled m f (x.first + j)) (o.each_earlier j h))

  first_zero : (eqb x.count 0 && ltb 0 x.first) ≡ false
  first_zero = by_bool (eqb x.count 0) (λ p. let z = o.first_idle (eqb-true x.count 0 p) in rw (p, le-ltb 0 x.first (omega arith))) (λ p. rw p)

-- the whole record
pub passes_all : (m : List ℕ) (s : Sheet) (e : ℕ) (x : Expression) → ValidSheet m s → IsExpression m s.function e x → x.index.0 ≤ 65535 → x.count < 65536 → ValidFields x
    → x.number < get_or (number_below s.arguments (file.globals m) s.function) x.kind 0 → ValidOperands m s.function s.operands x
    → first (expression_form m s.function e) ≡ fine tt
unfolding unknown_code misshapen unnamed operands_found
passes_all m s e x st is few small v low o =
    let f = s.function in
    let misplaced = any_none_below (misplaced_at m f x) x.count (none_misplaced m f s.operands x v o few small) in
    let late = any_none_below (late_at m f x) x.count (none_late m f s.operands x v o few small) in
    expression_groups m s e (file.globals m) x st refl is
    ∙ (pass _ _ _ (rw (le-ltb 18 x.kind v.kind_known, v.sub_known))
    ∙ (pass _ _ _ (rw (v.count_fits, number_idle s.arguments (file.globals m) f x.kind x.number low v.kind_known, first_zero m f s.operands x v o few small))
    ∙ rw (le-leb (x.first + x.count) s.operands o.within, misplaced, late)
    (pass _ _ _ refl ∙ (pass _ _ _ refl ∙ pass_last _ _ (number_names s.arguments (file.globals m) f x.kind x.number low)))))
