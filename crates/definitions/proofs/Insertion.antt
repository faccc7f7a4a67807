-- Insertion by place: a search that finds the first entry that is not before x has found where x goes, however it looked for it.
use Prim.Native.Nat.{ℕ, zero, suc, ◌≤◌, ◌<◌}
use native.Mathlib.Omega.{arith}
use mathlib.Core.List.{List, [], ◌∷◌, ◌++◌}
use mathlib.Core.Path.{◌≡◌, refl, sym, ap, subst}
use mathlib.Core.Logic.{◌⊎◌, inl, inr}
use mathlib.Core.Bool.{Bool, true, false}
use lib.ListN.{length, get_or, take, drop}
use Rattle.definitions.specs.Ends.{Pair, before}
use Rattle.definitions.specs.Pairs.{insert}
use Rattle.definitions.proofs.Order.{before_trans, before_irrefl}

-- at most one of two stands before the other
pub not_both : (x y : Pair) → before y x ≡ true → before x y ≡ false
not_both x y h = go (before x y) refl
  where
    go : (b : Bool) → before x y ≡ b → before x y ≡ false
    go true k = absurd (before_irrefl x (before_trans x y x k h))
    go false k = k

not_itself : (x : Pair) → before x x ≡ false
not_itself x = go (before x x) refl
  where
    go : (b : Bool) → before x x ≡ b → before x x ≡ false
    go true k = absurd (before_irrefl x k)
    go false k = k

module _ (x d : Pair) where
  -- x goes in front of the i-th entry, where all before it stand before x and it does not
  pub insert_at : (l : List Pair) (i : ℕ) → ((j : ℕ) → j < i → before (get_or l j d) x ≡ true) → (i ≡ length l) ⊎ (before x (get_or l i d) ≡ true) → i ≤ length l
      → insert x l ≡ take i l ++ (x ∷ drop i l)
  unfolding insert
  insert_at [] zero lower here h = refl
  insert_at [] (suc i) lower here h = absurd (omega arith)
  insert_at (y ∷ ys) zero lower (inl e) h = absurd (omega arith)
  insert_at (y ∷ ys) zero lower (inr k) h = rw (k, insert)
  insert_at (y ∷ ys) (suc i) lower here h =
      let k = lower 0 (omega arith) in
      rw (not_both x y k, k, insert) (ap (λ l. y ∷ l) (insert_at ys i (λ j q. lower (suc j) (omega arith)) (later here) (omega arith)))
    where
      later : (suc i ≡ suc (length ys)) ⊎ (before x (get_or ys i d) ≡ true) → (i ≡ length ys) ⊎ (before x (get_or ys i d) ≡ true)
      later (inl e) = inl (omega arith)
      later (inr k) = inr k

  -- nothing changes where x is the i-th entry
  pub insert_there : (l : List Pair) (i : ℕ) → ((j : ℕ) → j < i → before (get_or l j d) x ≡ true) → i < length l → get_or l i d ≡ x → insert x l ≡ l
  unfolding insert
  insert_there [] i lower h e = absurd (omega arith)
  insert_there (y ∷ ys) zero lower h e = subst (λ v. insert x (v ∷ ys) ≡ v ∷ ys) (sym e) (rw (not_itself x, insert) (rw (not_itself x)))
  insert_there (y ∷ ys) (suc i) lower h e =
      let k = lower 0 (omega arith) in
      rw (not_both x y k, k, insert) (ap (λ l. y ∷ l) (insert_there ys i (λ j q. lower (suc j) (omega arith)) (omega arith) e))
