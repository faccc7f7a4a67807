-- What the form checks (01, 2.6) give for one expression, where a rule needs it.
use Prim.Native.Nat.{ℕ, zero, suc, ◌+◌, ◌*◌, ◌≤◌, ◌<◌}
use native.Mathlib.Omega.{arith}
use mathlib.Core.Logic.{◌⊎◌, inl, inr, ◌≢◌}
use mathlib.Core.Bool.{true, false, ◌||◌}
use mathlib.Core.Path.{◌≡◌, refl, ap, ◌∙◌, sym}
use mathlib.Core.List.{List, []}
use borrow.Author.Tests.{eq-eqb, eqb-true, leb-true, leb-false, not-false}
use lib.Dec.{eqb, leb}
use lib.ListN.{length, get_or}
use Rattle.definitions.specs.Limits.{version_1}
use Rattle.definitions.specs.Module.{absent, arguments, expressions, kind, sub, number, operand_count, operand, pooled}
use Rattle.definitions.specs.Roles.{R, role, takes, has_sub, operands_by_kind}
use Rattle.definitions.proofs.Passed.{when_left}
use Rattle.definitions.proofs.Formed.{SheetFormed, ExpressionFormed, global_in, operand_in}
use Rattle.module.specs.declared.Sheet.{Sheet}
use Rattle.module.specs.declared.Expression.{Expression}
use Rattle.module.specs.Sheets.{IsExpression}
use Rattle.module.proofs.Places.{bounds}
use Rattle.memory.specs.Layout.{sections_at, size}
use Rattle.memory.specs.Facts.{ValidLine}
use Rattle.memory.specs.Changes.{section_at}
use Rattle.report.specs.Sizes.{section_header_size}
use Rattle.definitions.proofs.Wanted as from_form
use Rattle.rules_expressions.specs.Facts.{FormedSheet, FormedExpression, ValidSections}

pub sheet_of : (m : List ℕ) (s : Sheet) → FormedSheet m s → SheetFormed version_1 m s.function
sheet_of m s h = h.formed.each_sheet s.function h.present

pub count_is : (m : List ℕ) (s : Sheet) → FormedSheet m s → s.expressions ≡ expressions m s.function
count_is m s h = (bounds m s h.stands).laid.expressions_are

-- the checks of an expression of the sheet
pub checks_of : (m : List ℕ) (s : Sheet) (e : ℕ) → FormedSheet m s → e < s.expressions → ExpressionFormed m s.function e
checks_of m s e h k = (sheet_of m s h).each_expression e (omega (arith, count_is m s h))

argument_in : (m : List ℕ) (f e : ℕ) → ExpressionFormed m f e → kind m f e ≡ 1 → number m f e < arguments m f
argument_in m f e h k = leb-false (arguments m f) (number m f e) (when_left (eqb (kind m f e) 1) (leb (arguments m f) (number m f e)) (eq-eqb _ _ k) h.argument_there)

callee_in : (m : List ℕ) (f e : ℕ) → ExpressionFormed m f e → kind m f e ≡ 4 → number m f e < f
callee_in m f e h k = leb-false f (number m f e) (when_left (eqb (kind m f e) 4) (leb f (number m f e)) (eq-eqb _ _ k) h.callee_lower)

-- how many operands a kind has
takes_is : (m : List ℕ) (f e k n : ℕ) → ExpressionFormed m f e → kind m f e ≡ k → eqb k 11 ≡ false → length (get_or (operands_by_kind 0) k []) ≡ n → operand_count m f e ≡ n
unfolding takes
takes_is m f e k n h q z l =
    let t : (eqb k 11 || eqb (operand_count m f e) (length (get_or (operands_by_kind 0) k []))) ≡ true = ap (λ y. takes y (operand_count m f e)) (sym q) ∙ from_form.takes_as_many m f e h in
    let t' : eqb (operand_count m f e) (length (get_or (operands_by_kind 0) k [])) ≡ true = ap (λ b. b || eqb (operand_count m f e) (length (get_or (operands_by_kind 0) k []))) (sym z) ∙ t in
    eqb-true (operand_count m f e) (length (get_or (operands_by_kind 0) k [])) t' ∙ l

module _ (m : List ℕ) (s : Sheet) (e : ℕ) (x : Expression) (h : FormedExpression m s e x) where
  pub checks : ExpressionFormed m s.function e
  checks = checks_of m s e h.sheet h.there

  pub kind_here : (k : ℕ) → x.kind ≡ k → kind m s.function e ≡ k
  kind_here k q = sym h.is.kind_is ∙ q

  -- 1: an argument's byte can be read
  pub argument_there : x.kind ≡ 1 → x.number < s.arguments
  argument_there k =
      omega (arith, argument_in m s.function e checks (kind_here 1 k), h.is.number_is, (bounds m s h.sheet.stands).laid.arguments_are)

  -- 2: a global's space can be read
  pub space_there : x.kind ≡ 2 → 10 + x.number < length m
  space_there k = omega (arith, global_in m s.function e checks (kind_here 2 k), h.is.number_is, h.sheet.formed.spaces_there)

  pub global_small : x.kind ≡ 2 → x.number < 65535
  unfolding version_1
  global_small k = omega (arith, global_in m s.function e checks (kind_here 2 k), h.is.number_is, h.sheet.formed.few_globals)

  -- 4: the callee is a lower function, and the table of sections has a place for it
  pub callee_there : x.kind ≡ 4 → x.number < s.function
  callee_there k = omega (arith, callee_in m s.function e checks (kind_here 4 k), h.is.number_is)

  pub section_there : x.kind ≡ 4 → sections_at + 4 * x.number + 4 ≤ size
  unfolding version_1 sections_at size
  section_there k = omega (arith, callee_there k, h.sheet.present, h.sheet.formed.few_functions)

  -- where its section begins: i is the callee's number, r what the table says of it
  pub callee_section : (b t : List ℕ) (i r : ℕ) → ValidSections b t s.function → x.kind ≡ 4 → i ≡ x.number → r ≡ section_at t i
      → (r ≡ section_at t x.number) × (r + section_header_size ≤ length b)
  callee_section b t i r sections k q p =
      let z : r ≡ section_at t x.number = p ∙ ap (section_at t) q in
      (z, omega (arith, z, sections x.number (callee_there k)))

  -- its part of the pool
  pub pool_there : x.first + x.count ≤ s.operands
  pool_there =
      omega (arith, from_form.pooled_within m s.function e checks, h.is.first_is, h.is.count_is, (bounds m s h.sheet.stands).laid.operands_are)

  pub operand_is : (j : ℕ) → pooled m s.function (x.first + j) ≡ operand m s.function e j
  unfolding operand
  operand_is j = ap (λ i. pooled m s.function (i + j)) h.is.first_is

  -- an operand that is there is an earlier expression
  pub operand_earlier : (j : ℕ) → j < x.count → operand m s.function e j ≢ absent → operand m s.function e j < e
  operand_earlier j k n = go (operand_in m s.function e checks j (omega (arith, h.is.count_is)))
    where
      go : (operand m s.function e j ≡ absent) ⊎ (operand m s.function e j < e) → operand m s.function e j < e
      go (inl a) = absurd (n a)
      go (inr a) = a

  pub few : e < 2048
  few = omega (arith, h.there, (bounds m s h.sheet.stands).few_expressions)

  -- it has a line, and so has each expression before it
  pub own_line : (w : List ℕ) → length w ≡ size → ValidLine w e
  unfolding size
  own_line w l = record { long = l; here = omega (arith, few) }

  pub earlier_line : (w : List ℕ) (y : ℕ) → length w ≡ size → y < e → ValidLine w y
  unfolding size
  earlier_line w y l k = record { long = l; here = omega (arith, few) }

-- a leaf has no operands
leaf_takes : (k : ℕ) → k ≤ 4 → (eqb k 11 ≡ false) × (length (get_or (operands_by_kind 0) k []) ≡ 0)
unfolding operands_by_kind
leaf_takes zero h = (refl, refl)
leaf_takes (suc zero) h = (refl, refl)
leaf_takes (suc (suc zero)) h = (refl, refl)
leaf_takes (suc (suc (suc zero))) h = (refl, refl)
leaf_takes (suc (suc (suc (suc zero)))) h = (refl, refl)
leaf_takes (suc (suc (suc (suc (suc k))))) h = absurd (omega arith)

pub leaf_count : (m : List ℕ) (s : Sheet) (e : ℕ) (x : Expression) → FormedExpression m s e x → x.kind ≤ 4 → x.count ≡ 0
leaf_count m s e x h k =
    let t = leaf_takes x.kind k in
    h.is.count_is ∙ takes_is m s.function e x.kind 0 (checks m s e x h) (sym h.is.kind_is) t.0 t.1

-- the space of an expression that is a global
pub base_space_there : (m : List ℕ) (s : Sheet) (b : ℕ) (y : Expression) → FormedSheet m s → b < s.expressions → IsExpression m s.function b y → y.kind ≡ 2 → 10 + y.number < length m
base_space_there m s b y h k is q = space_there m s b y (record { sheet = h; there = k; is = is }) q

-- an Access or an AccessIndex: its base
module _ (m : List ℕ) (s : Sheet) (e : ℕ) (x : Expression) (h : FormedExpression m s e x) (a : 5 ≤ x.kind) (b : x.kind < 7) where
  pub base_earlier : operand m s.function e 0 < e
  base_earlier = from_form.base_earlier m s.function e (checks m s e x h) (omega (arith, h.is.kind_is)) (omega (arith, h.is.kind_is))

  pub base_pooled : x.first < s.operands
  base_pooled =
      omega (arith, from_form.base_pooled m s.function e (checks m s e x h) (omega (arith, h.is.kind_is)) (omega (arith, h.is.kind_is)), h.is.first_is, (bounds m s h.sheet.stands).laid.operands_are)

  pub base_counts : 0 < operand_count m s.function e
  base_counts = from_form.base_counts m s.function e (checks m s e x h) (omega (arith, h.is.kind_is)) (omega (arith, h.is.kind_is))

  pub base_read : (y : ℕ) → y ≡ pooled m s.function x.first → y ≡ operand m s.function e 0
  base_read y q = let z : x.first ≡ x.first + 0 = omega arith in q ∙ ap (pooled m s.function) z ∙ operand_is m s e x h 0

  pub base_there : (y : ℕ) → y ≡ pooled m s.function x.first → y < s.expressions
  base_there y q = omega (arith, base_read y q, base_earlier, h.there)

-- an Access: its index, which stands behind its base in the pool
module _ (m : List ℕ) (s : Sheet) (e : ℕ) (x : Expression) (h : FormedExpression m s e x) (k : x.kind ≡ 5) where
  access_count : x.count ≡ 2
  access_count = h.is.count_is ∙ from_form.access_takes m s.function e (checks m s e x h) (kind_here m s e x h 5 k)

  pub index_pooled : x.first + 1 < s.operands
  index_pooled = omega (arith, pool_there m s e x h, access_count)

  pub index_fits : x.first + 1 < 65536
  index_fits = omega (arith, index_pooled, (bounds m s h.sheet.stands).few_operands)

  pub index_earlier : operand m s.function e 1 < e
  unfolding role operands_by_kind
  index_earlier =
      from_form.wanted m s.function e (checks m s e x h) 1 R (omega (arith, h.is.count_is, access_count))
      (ap (λ y. role y (sub m s.function e) 1) (kind_here m s e x h 5 k))

  -- what was read there
  pub index_line : (w : List ℕ) (i : ℕ) → length w ≡ size → i ≡ pooled m s.function (x.first + 1) → ValidLine w i
  index_line w i l q = earlier_line m s e x h w i l (rw (q, operand_is m s e x h 1) index_earlier)

  no_fourth : (u : ℕ) → u ≤ 3 → u ≢ 0 → u ≢ 1 → u ≢ 2 → u ≢ 3 → ⊥
  no_fourth u l a b c d = omega arith

  -- its sub is 0 to 3
  pub sub_there : x.sub ≢ 0 → x.sub ≢ 1 → x.sub ≢ 2 → x.sub ≢ 3 → ⊥
  unfolding has_sub
  sub_there a b c d =
      let t : has_sub (kind m s.function e) (sub m s.function e) ≡ true = not-false _ (checks m s e x h).sub_known in
      let t' : leb (sub m s.function e) 3 ≡ true = ap (λ y. has_sub y (sub m s.function e)) (sym (kind_here m s e x h 5 k)) ∙ t in
      no_fourth x.sub (rw h.is.sub_is (leb-true (sub m s.function e) 3 t')) a b c d
