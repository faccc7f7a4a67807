-- A loop over the numbers of a range, in the form "what is left gives the whole": steps that refuse nothing
-- (definitions, Checks.through).
use Prim.Native.Nat.{ℕ, ◌+◌, ◌-◌, ◌≤◌, ◌<◌}
use native.Mathlib.Omega.{arith}
use mathlib.Core.Path.{◌≡◌, ap, ◌∙◌, sym}
use Rattle.definitions.specs.Bytes.{range}
use Rattle.definitions.specs.Checks.{through}
use Rattle.definitions.proofs.Loops.{through_left, through_done}

-- a run over the first n numbers that began at s₀, has done i of them and stands at s
pub record Doing {S : Type 0} (step : ℕ → S → S) (n : ℕ) (s₀ s : S) (i : ℕ) : Type 0 where
  pub within : i ≤ n
  pub rest : through step (range i (n - i)) s ≡ through step (range 0 n) s₀

module _ {S : Type 0} (step : ℕ → S → S) (n : ℕ) where
  pub doing_start : (s : S) → Doing step n s s 0
  doing_start s = record { within = omega arith; rest = let e : n - 0 ≡ n = omega arith in ap (λ k. through step (range 0 k) s) e }

  pub doing_again : (s₀ s s' : S) (i : ℕ) → Doing step n s₀ s i → i < n → s' ≡ step i s → Doing step n s₀ s' (i + 1)
  doing_again s₀ s s' i d h e = record {
    within = omega arith;
    rest = ap (λ x. through step (range (i + 1) (n - (i + 1))) x) e ∙ sym (through_left step i n s h) ∙ d.rest;
  }

  pub doing_done : (s₀ s : S) (i : ℕ) → Doing step n s₀ s i → n ≤ i → s ≡ through step (range 0 n) s₀
  doing_done s₀ s i d h = sym (through_done step i n s h) ∙ d.rest
