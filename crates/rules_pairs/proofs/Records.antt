-- A run of records taken apart at one of them, and each of them in it (the other laws of records are in crate memory).
use Prim.Native.Nat.{ℕ, zero, suc, ◌+◌, ◌*◌, ◌-◌, ◌<◌, ◌≤◌}
use native.Mathlib.Omega.{arith}
use mathlib.Core.Path.{◌≡◌, refl, ap, ◌∙◌, subst}
use mathlib.Core.List.{List, ◌∷◌}
use mathlib.Core.Logic.{inl, inr}
use lib.ListN.{take, drop}
use Rattle.definitions.specs.Report.{records}
use Rattle.definitions.specs.Chains.{Mem}

module _ {A : Type 0} (one : List ℕ → ℕ → A) (size : ℕ) where
  pub take_records : (b : List ℕ) (p n i : ℕ) → i ≤ n → take i (records one size b p n) ≡ records one size b p i
  unfolding records
  take_records b p n zero h = refl
  take_records b p zero (suc i) h = absurd (omega arith)
  take_records b p (suc n) (suc i) h = ap (λ (l : List A). one b p ∷ l) (take_records b (p + size) n i (omega arith))

  pub drop_records : (b : List ℕ) (p n i : ℕ) → i ≤ n → drop i (records one size b p n) ≡ records one size b (p + size * i) (n - i)
  unfolding records
  drop_records b p n zero h =
      let e : n ≡ n - 0 = omega arith in
      let q : p ≡ p + size * 0 = omega arith in
      ap (records one size b p) e ∙ ap (λ (x : ℕ). records one size b x (n - 0)) q
  drop_records b p zero (suc i) h = absurd (omega arith)
  drop_records b p (suc n) (suc i) h =
      let e : n - i ≡ suc n - suc i = omega arith in
      let q : p + size + size * i ≡ p + size * suc i = omega arith in
      drop_records b (p + size) n i (omega arith) ∙ ap (records one size b (p + size + size * i)) e ∙ ap (λ (x : ℕ). records one size b x (suc n - suc i)) q

  -- each of them is in it
  pub mem_records : (b : List ℕ) (p n i : ℕ) → i < n → Mem (one b (p + size * i)) (records one size b p n)
  unfolding records
  mem_records b p zero i h = absurd (omega arith)
  mem_records b p (suc n) zero h = let e : p + size * 0 ≡ p = omega arith in inl (ap (one b) e)
  mem_records b p (suc n) (suc i) h =
      let e : p + size + size * i ≡ p + size * suc i = omega arith in
      inr (subst (λ (q : ℕ). Mem (one b q) (records one size b (p + size) n)) e (mem_records b (p + size) n i (omega arith)))
