-- What the quick test's tables say of an expression: how many operands are read and that they lie in the pool. So one
-- that the test accepts passes every check of 01, 2.6.
use Prim.Native.Nat.{ℕ, zero, suc, ◌+◌, ◌*◌, ◌≤◌, ◌<◌}
use native.Mathlib.Omega.{arith}
use mathlib.Core.Path.{◌≡◌, refl, sym, ap, ◌∙◌, subst}
use mathlib.Core.List.{List}
use mathlib.Core.Bool.{true, ◌||◌}
use lib.Dec.{leb, eqb}
use lib.ListN.{get_or}
use borrow.Author.Tests.{eqb-true, eqb-false, leb-true, lt-leb}
use Rattle.definitions.specs.Module as file
use Rattle.definitions.specs.Module.{pooled}
use Rattle.definitions.specs.Checks.{fine, first}
use Rattle.definitions.specs.Roles.{operands_by_kind, level_1, level_2, takes}
use Rattle.definitions.specs.Form.{expression_form}
use Rattle.module.specs.declared.Sheet.{Sheet}
use Rattle.module.specs.declared.Expression.{Expression}
use Rattle.module.specs.Sheets.{ValidSheet, IsExpression}
use Rattle.module.proofs.Places.{bounds}
use Rattle.form_records.proofs.CheckLists.{by_bool}
use Rattle.std.proofs.Math.ListN.{get_or-map}
use Rattle.form_expressions.specs.declared.fast.CountRow.{CountRow}
use Rattle.form_expressions.specs.declared.fast.QuickTables.{QuickTables}
use Rattle.form_expressions.specs.QuickTables.{number_below, few_operands, first_below, guards, QuickTablesLayout}
use Rattle.form_expressions.proofs.KindTables.{all_below, at_each}
use Rattle.form_expressions.proofs.QuickRecords.{sub_zero, passes_all}

-- the rows: what they say of a kind
few_at : (k : ℕ) → k ≤ 18 → get_or few_operands k 0 ≤ 3
unfolding all_below few_operands
few_at k h = leb-true _ _ (at_each (λ i. leb (get_or few_operands i 0) 3) 19 refl k (omega arith))

takes_few : (k : ℕ) → k ≤ 18 → get_or few_operands k 0 < 3 → takes k (get_or few_operands k 0) ≡ true
unfolding all_below few_operands takes operands_by_kind level_1 level_2
takes_few k h lt =
    let cell = at_each (λ i. leb 3 (get_or few_operands i 0) || takes i (get_or few_operands i 0)) 19 refl k (omega arith) in
    rw (lt-leb 3 (get_or few_operands k 0) lt) at cell

sampling_not_few : (k : ℕ) → k ≡ 13 → get_or few_operands k 0 ≡ 3
unfolding few_operands
sampling_not_few k e = ap (λ i. get_or few_operands i 0) e

-- where there are n operands from p on, they lie in the pool
in_pool : (operands n p : ℕ) → p < get_or (first_below operands) n 0 → (n < 3) × (p + n ≤ operands) × (n ≡ 0 → p ≡ 0)
unfolding first_below
in_pool operands zero p h = (omega arith, omega (arith, h), λ _. omega (arith, h))
in_pool operands (suc zero) p h = (omega arith, omega (arith, h), λ z. absurd (omega arith))
in_pool operands (suc (suc zero)) p h = (omega arith, omega (arith, h), λ z. absurd (omega arith))
in_pool operands (suc (suc (suc zero))) p h = absurd (omega (arith, h))
in_pool operands (suc (suc (suc (suc n)))) p h = absurd (omega (arith, h))

-- and each that the guard of n asks for is earlier, where the first two are
each_earlier : (m : List ℕ) (f e p n : ℕ) → n < 3
    → (get_or guards n 0 ≡ 3221225472 → pooled m f p < e) × (get_or guards n 0 ≡ 3221274624 → (pooled m f p < e) × (pooled m f (p + 1) < e))
    → (j : ℕ) → j < n → pooled m f (p + j) < e
unfolding guards
each_earlier m f e p zero few asked j lt = absurd (omega arith)
each_earlier m f e p (suc zero) few asked j lt = let z : p ≡ p + j = omega arith in subst (λ (i : ℕ). pooled m f i < e) z (asked.0 refl)
each_earlier m f e p (suc (suc zero)) few asked j lt =
    by_bool (eqb j 0)
    (λ q. let z : p ≡ p + j = (let y = eqb-true j 0 q in omega arith) in subst (λ (i : ℕ). pooled m f i < e) z (asked.1 refl).0)
    (λ q. let z : p + 1 ≡ p + j = (let y : j ≡ 0 → ⊥ = eqb-false j 0 q in omega arith) in subst (λ (i : ℕ). pooled m f i < e) z (asked.1 refl).1)
each_earlier m f e p (suc (suc (suc n))) few asked j lt = absurd (omega arith)

-- as the code reads the tables
module _ (m : List ℕ) (s : Sheet) (quick : QuickTables) (laid : QuickTablesLayout m s quick) where
  -- the row of n operands, as the code reads it
  abbrev pub row_of : ℕ → CountRow
  row_of n = get_or quick.by_count n (record { first_below = 0; guard = 0 })

  few_read : (i k n : ℕ) → i ≡ k → n ≡ get_or quick.few_operands i 0 → n ≡ get_or few_operands k 0
  few_read i k n q e = e ∙ (ap (λ l. get_or l i 0) laid.few_operands_is ∙ ap (λ j. get_or few_operands j 0) q)

  pub few_three : (i k n : ℕ) → i ≡ k → k ≤ 18 → n ≡ get_or quick.few_operands i 0 → n ≤ 3
  few_three i k n q known e =
      let row = few_read i k n q e in
      let le = few_at k known in
      omega (arith, row, le)

  pub pool_read : (n p : ℕ) → p < (row_of n).first_below → (n < 3) × (p + n ≤ s.operands) × (n ≡ 0 → p ≡ 0)
  pool_read n p h = in_pool s.operands n p (
      let row : (row_of n).first_below ≡ get_or (first_below s.operands) n 0 =
      sym (get_or-map (λ (r : CountRow). r.first_below) quick.by_count n (record { first_below = 0; guard = 0 })) ∙ ap (λ l. get_or l n 0) laid.first_below_is in
      omega (arith, row, h))

  -- An expression that the test accepts. The code reads its first and its count as one number t, and has n operands
  -- from p on.
  pub accepted : (e : ℕ) (x : Expression) (i n p t o o' : ℕ) → ValidSheet m s → IsExpression m s.function e x → e ≤ 65535 → x.first < 65536 → x.count < 65536
      → x.kind ≤ 18 → i ≡ x.kind → x.sub ≡ 0 → x.number < get_or quick.number_below i 0 → n ≡ get_or quick.few_operands i 0 → t ≡ 65536 * x.first + x.count → (p < 65536 → t ≡ 65536 * p + n)
      → p < (row_of n).first_below → o ≡ pooled m s.function p → o' ≡ pooled m s.function (p + 1)
      → ((row_of n).guard ≡ 3221225472 → o < e) × ((row_of n).guard ≡ 3221274624 → (o < e) × (o' < e))
      → first (expression_form m s.function e) ≡ fine tt
  accepted e x i n p t o o' st is small_e small_first small known q sub_0 number_in n_is told split within o_is o'_is asked =
      let k = x.kind in
      let row = few_read i k n q n_is in
      let inside = pool_read n p within in
      let guard : (row_of n).guard ≡ get_or guards n 0 =
      sym (get_or-map (λ (r : CountRow). r.guard) quick.by_count n (record { first_below = 0; guard = 0 })) ∙ ap (λ l. get_or l n 0) laid.guards_are in
      let below : get_or quick.number_below i 0 ≡ get_or (number_below s.arguments (file.globals m) s.function) k 0 =
      ap (λ l. get_or l i 0) laid.number_below_is ∙ ap (λ j. get_or (number_below s.arguments (file.globals m) s.function) j 0) q in
      let whole : 65536 * x.first + x.count ≡ 65536 * p + n = omega (arith, told, split (omega (arith, inside.1, (bounds m s st).few_operands))) in
      let few = inside.0 in
      let firsts : x.first ≡ p = omega (arith, whole, few) in
      let counts : x.count ≡ n = omega (arith, whole, few) in
      let earlier = each_earlier m s.function e p n few (
        λ z. (let h = asked.0 (guard ∙ z) in omega (arith, h, o_is)),
        λ z. (let h = asked.1 (guard ∙ z) in (omega (arith, h.0, o_is), omega (arith, h.1, o'_is))),
      ) in
      passes_all m s e x st is (omega (arith, is.index_is)) small
      (record {
        kind_known = known;
        sub_known = sub_zero k x.sub sub_0;
        count_fits = ap (takes k) (counts ∙ row) ∙ takes_few k known (omega (arith, few, row));
      })
      (omega (arith, below, number_in))
      (record {
        no_sampling = λ z. (let h = sampling_not_few k z in omega (arith, few, row, h));
        first_idle = λ z. firsts ∙ inside.2 (omega (arith, counts));
        within = omega (arith, inside.1, firsts, counts);
        each_earlier = λ j lt. (
            let h = earlier j (omega (arith, counts)) in
            let y : p + j ≡ x.first + j = omega (arith, firsts) in
            let at : pooled m s.function (p + j) ≡ pooled m s.function (x.first + j) = ap (pooled m s.function) y in
            omega (arith, h, at, is.index_is));
      })
