-- A pair whose key is behind that of the last entry is behind all of them, and enters at the end.
use Prim.Native.Nat.{ℕ, ◌+◌, ◌*◌, ◌-◌, ◌<◌}
use native.Mathlib.Omega.{arith}
use native.Mathlib.Decide.{dec_lt}
use mathlib.Core.Path.{◌≡◌, sym, subst}
use mathlib.Core.List.{List}
use mathlib.Core.Logic.{inl}
use mathlib.Core.Bool.{true}
use Rattle.std.specs.Prelude.{Err}
use lib.ListN.{length, get_or}
use Rattle.definitions.specs.Ends as paper
use Rattle.definitions.specs.Ends.{before}
use Rattle.definitions.specs.Report.{r_mixed}
use Rattle.definitions.proofs.Insertion.{insert_at}
use Rattle.definitions.proofs.Order.{before_trans}
use Rattle.definitions.proofs.Sorted.{in_order}
use Rattle.rules_pairs.specs.Bytes.{listed}
use Rattle.rules_pairs.specs.Facts.{KeyResult, ValidSearch, AllBefore, FindResult}
use Rattle.rules_pairs.proofs.Keys.{key_before}
use Rattle.rules_pairs.proofs.OpenedPlace.{length_listed, getD_listed}

module _ (w : List ℕ) (list n sought : ℕ) where
  pub behind_none : n ≡ 0 → AllBefore w list n sought
  unfolding AllBefore
  behind_none e p for j lt = absurd (omega arith)

  pub behind_last : (k : ℕ) → ValidSearch w list n → (n ≡ 0 → ⊥) → KeyResult (r_mixed w (list + 6 * (n - 1))) k → k < sought → AllBefore w list n sought
  unfolding AllBefore
  behind_last k s some last less p for j lt =
      let at_end : before (get_or (listed w list n) (n - 1) p) p ≡ true =
      rw (getD_listed w list n (n - 1) p (omega arith)) (key_before _ p last.small for.small (omega (arith, last.is, for.is))) in
      by_place at_end (dec_lt j (n - 1))
    where
      by_place : before (get_or (listed w list n) (n - 1) p) p ≡ true → Dec (j < n - 1) → before (get_or (listed w list n) j p) p ≡ true
      by_place at_end (yes earlier) =
          let l : length (listed w list n) ≡ n = length_listed w list n in
          before_trans (get_or (listed w list n) j p) (get_or (listed w list n) (n - 1) p) p
          (in_order (listed w list n) s.ascends j (n - 1) p earlier (omega arith)) at_end
      by_place at_end (no ge) = let e : n - 1 ≡ j = omega arith in subst (λ (i : ℕ). before (get_or (listed w list n) i p) p ≡ true) e at_end

  pub behind_end : (p : paper.Pair) → AllBefore w list n sought → KeyResult p sought → FindResult (listed w list n) n p (Err n)
  unfolding AllBefore
  behind_end p b for =
      let l : length (listed w list n) ≡ n = length_listed w list n in
      record {
        is = sym (insert_at p p (listed w list n) n (b p for) (inl (sym l)) (omega arith));
        in_list = omega arith;
      }
