-- May-return and may-kill of two exit masks joined: the bits of the union are the bits of either.
use Prim.Native.Nat.{ℕ, zero, suc, ◌/◌, ◌%◌, ◌<◌}
use native.Mathlib.Omega.{arith}
use mathlib.Core.Path.{◌≡◌, refl, ap, ◌∙◌}
use mathlib.Core.Bool.{Bool, true, false, cond, ◌||◌}
use lib.Dec.{eqb}
use lib.Bits.{bit_or, or_mod, or_shr}
use Rattle.definitions.specs.Codes.{join}
use Rattle.vocabulary.specs.Said.{may_return_said, may_kill_said}

-- of two digits
digit : (a b : ℕ) → a < 2 → b < 2 → eqb (bit_or a b) 1 ≡ (eqb a 1 || eqb b 1)
digit zero b h k = refl
digit (suc zero) zero h k = refl
digit (suc zero) (suc zero) h k = refl
digit (suc zero) (suc (suc b)) h k = absurd (omega arith)
digit (suc (suc a)) b h k = absurd (omega arith)

low : (a b : ℕ) → eqb (bit_or a b % 2) 1 ≡ (eqb (a % 2) 1 || eqb (b % 2) 1)
low a b = ap (λ n. eqb n 1) (or_mod a b 1) ∙ digit (a % 2) (b % 2) (omega arith) (omega arith)

pub may_return_joined : (a b : ℕ) → may_return_said (join a b) ≡ (may_return_said a || may_return_said b)
unfolding may_return_said join
may_return_joined a b = low a b

pub may_kill_joined : (a b : ℕ) → may_kill_said (join a b) ≡ (may_kill_said a || may_kill_said b)
unfolding may_kill_said join
may_kill_joined a b = ap (λ n. eqb (n % 2) 1) (or_shr a b 1) ∙ low (a / 2) (b / 2)

-- one bit, or none
pub kill_bit : (b : Bool) → may_kill_said (cond b 2 0) ≡ b
unfolding may_kill_said
kill_bit true = refl
kill_bit false = refl

pub kill_bit_alone : (b : Bool) → may_return_said (cond b 2 0) ≡ false
unfolding may_return_said
kill_bit_alone true = refl
kill_bit_alone false = refl

pub return_bit : (b : Bool) → may_return_said (cond b 1 0) ≡ b
unfolding may_return_said
return_bit true = refl
return_bit false = refl

pub return_bit_alone : (b : Bool) → may_kill_said (cond b 1 0) ≡ false
unfolding may_kill_said
return_bit_alone true = refl
return_bit_alone false = refl
