-- Counting over a range: one number more at its end, and numbers that don't count.
use Prim.Native.Nat.{ℕ, zero, suc, ◌+◌, ◌≤◌, ◌<◌}
use native.Mathlib.Omega.{arith}
use mathlib.Core.Path.{◌≡◌}
use mathlib.Core.Bool.{Bool, false, cond}
use Rattle.definitions.specs.Bytes.{range}
use Rattle.definitions.specs.Checks.{count}
use Rattle.form_records.proofs.CheckLists.{by_bool}

-- what a number adds to a count
unfoldable pub adds : Bool → ℕ
adds b = cond b 1 0

adds_front : (p : ℕ → Bool) (i n : ℕ) → count p (range i (suc n)) ≡ adds (p i) + count p (range (suc i) n)
unfolding count range adds
adds_front p i n = by_bool (p i) (λ h. rw (h, count) (omega arith)) (λ h. rw (h, count) (omega arith))

pub count_last : (p : ℕ → Bool) (i n : ℕ) → count p (range i (suc n)) ≡ count p (range i n) + adds (p (i + n))
unfolding count range
count_last p i zero = let e : i + 0 ≡ i = omega arith in rw e (omega (arith, adds_front p i 0))
count_last p i (suc n) =
    let e : i + suc n ≡ suc i + n = omega arith in
    rw e (omega (arith, adds_front p i (suc n), adds_front p i n, count_last p (suc i) n))

-- what does not count past k adds nothing
pub count_still : (p : ℕ → Bool) (k n : ℕ) → ((u : ℕ) → k ≤ u → u < k + n → p u ≡ false) → count p (range 0 (k + n)) ≡ count p (range 0 k)
unfolding adds
count_still p k zero h = let e : k + 0 ≡ k = omega arith in rw e
count_still p k (suc n) h =
    let e : k + suc n ≡ suc (k + n) = omega arith in
    rw (e, count_last p 0 (k + n)) (
    let z : 0 + (k + n) ≡ k + n = omega arith in
    rw (z, h (k + n) (omega arith) (omega arith)) (
    omega (arith, count_still p k n (λ u a b. h u a (omega arith)))))

pub count_few : (p : ℕ → Bool) (n : ℕ) → count p (range 0 n) ≤ n
unfolding count range adds
count_few p zero = omega arith
count_few p (suc n) =
    by_bool (p (0 + n))
    (λ h. omega (arith, rw (h, adds) at (count_last p 0 n), count_few p n))
    (λ h. omega (arith, rw (h, adds) at (count_last p 0 n), count_few p n))
