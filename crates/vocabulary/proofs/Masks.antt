-- A mask of one bit: what meets it has that bit.
use Prim.Native.Nat.{ℕ, zero, suc, ◌^◌, ◌*◌, ◌<◌}
use native.Mathlib.Omega.{arith}
use mathlib.Core.Path.{◌≡◌, ap, ◌∙◌}
use mathlib.Core.Bool.{not}
use lib.Dec.{eqb}
use Rattle.std.specs.Int.{bit_at}
use Rattle.std.proofs.lemmas.Nat.Bits.{and_pow, bit_at-lt}
use Rattle.std.proofs.lemmas.Nat.{pow_pos}
use borrow.Author.Tests.{eq-eqb, ne_eqb}
use Rattle.definitions.specs.Codes.{meets}

pub meets_bit : (x k : ℕ) → meets x (2 ^ k) ≡ eqb (bit_at x k) 1
unfolding meets
meets_bit x k = ap (λ n. not (eqb n 0)) (and_pow x k) ∙ digit (bit_at x k) (bit_at-lt x k)
  where
    digit : (b : ℕ) → b < 2 → not (eqb (b * 2 ^ k) 0) ≡ eqb b 1
    digit zero h = rw (eq-eqb (0 * 2 ^ k) 0 (omega arith))
    digit (suc zero) h = rw (ne_eqb (1 * 2 ^ k) 0 (λ e. omega (arith, e, pow_pos k)))
    digit (suc (suc b)) h = absurd (omega arith)
