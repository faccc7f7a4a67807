-- Membership in a range of numbers, and in two lists joined.
use Prim.Native.Nat.{ℕ, zero, suc, ◌+◌, ◌≤◌, ◌<◌}
use native.Mathlib.Omega.{arith}
use mathlib.Core.List.{List, [], ◌∷◌, ◌++◌}
use mathlib.Core.Path.{◌≡◌, refl}
use mathlib.Core.Logic.{◌⊎◌, inl, inr}
use mathlib.Core.Bool.{Bool, true, false}
use lib.Dec.{eqb}
use borrow.Author.Tests.{eqb-true, eqb-false}
use Rattle.definitions.specs.Bytes.{range}
use Rattle.definitions.specs.Chains.{Mem}

pub range_from : (i n k : ℕ) → Mem k (range i n) → (i ≤ k) × (k < i + n)
unfolding range
range_from i zero k h = absurd h
range_from i (suc n) k (inl e) = omega arith
range_from i (suc n) k (inr h) = let r = range_from (suc i) n k h in omega arith

pub range_to : (i n k : ℕ) → i ≤ k → k < i + n → Mem k (range i n)
unfolding range
range_to i zero k a b = absurd (omega arith)
range_to i (suc n) k a b = go (eqb k i) refl (λ c. range_to (suc i) n k c (omega arith))
  where
    go : (t : Bool) → eqb k i ≡ t → (suc i ≤ k → Mem k (range (suc i) n)) → (k ≡ i) ⊎ Mem k (range (suc i) n)
    go true e ih = inl (eqb-true k i e)
    go false e ih = let ne : k ≡ i → ⊥ = eqb-false k i e in inr (ih (omega arith))

pub append_from : {A : Type 0} (z : A) (xs ys : List A) → Mem z (xs ++ ys) → Mem z xs ⊎ Mem z ys
append_from z [] ys h = inr h
append_from z (x ∷ xs) ys (inl e) = inl (inl e)
append_from {A} z (x ∷ xs) ys (inr h) = go (append_from z xs ys h)
  where
    go : Mem z xs ⊎ Mem z ys → Mem z (x ∷ xs) ⊎ Mem z ys
    go (inl a) = inl (inr a)
    go (inr a) = inr a

pub append_to : {A : Type 0} (z : A) (xs ys : List A) → Mem z xs ⊎ Mem z ys → Mem z (xs ++ ys)
append_to z [] ys (inl h) = absurd h
append_to z [] ys (inr h) = h
append_to z (x ∷ xs) ys (inl (inl e)) = inl e
append_to z (x ∷ xs) ys (inl (inr h)) = inr (append_to z xs ys (inl h))
append_to z (x ∷ xs) ys (inr h) = inr (append_to z xs ys (inr h))
