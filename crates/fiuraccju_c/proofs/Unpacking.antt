-- Packing loses nothing: an answer whose values have room is had back by dividing, so no two of them are packed to one number; a report and a
-- refusal least of all. Assumes nothing.
use Prim.Native.Nat.{ℕ, ◌/◌, ◌%◌, ◌^◌}
use mathlib.Core.Bool.{Bool, true, false}
use mathlib.Core.Path.{◌≡◌, refl, ap, ◌∙◌, sym}
use native.Mathlib.Omega.{arith}
use lib.Dec.{eqb}
use borrow.Author.Tests.{eqb-true, eqb-false}
use Rattle.definitions.specs.Checks.{Refusal, Checked, fine, refused}
use Rattle.definitions.proofs.Fold.{not_fine}
use Rattle.fiuraccju_c.specs.Packed.{packed_refusal, packed, unpacked_refusal, unpacked, Roomy, RoomFor}

refusal_path : (r : Refusal) (n f p c v : ℕ) → n ≡ r.number → f ≡ r.function → p ≡ r.place → c ≡ r.cause → v ≡ r.cause_number
    → record { number = n; function = f; place = p; cause = c; cause_number = v } ≡ r
refusal_path r n f p c v hn hf hp hc hv = λ i. record { number = hn i; function = hf i; place = hp i; cause = hc i; cause_number = hv i }

module _ (r : Refusal) (room : Roomy r) where
  pub number_back : packed_refusal r / 2 ^ 56 ≡ r.number
  unfolding packed_refusal
  number_back = omega arith

  function_back : packed_refusal r / 2 ^ 40 % 2 ^ 16 ≡ r.function
  unfolding packed_refusal
  function_back = omega arith

  place_back : packed_refusal r / 2 ^ 24 % 2 ^ 16 ≡ r.place
  unfolding packed_refusal
  place_back = omega arith

  cause_back : packed_refusal r / 2 ^ 16 % 2 ^ 8 ≡ r.cause
  unfolding packed_refusal
  cause_back = omega arith

  cause_number_back : packed_refusal r % 2 ^ 16 ≡ r.cause_number
  unfolding packed_refusal
  cause_number_back = omega arith

  -- the five values are had back
  pub refusal_back : unpacked_refusal (packed_refusal r) ≡ r
  unfolding unpacked_refusal
  refusal_back = refusal_path r _ _ _ _ _ number_back function_back place_back cause_back cause_number_back

-- and so is every answer
pub answer_back : (a : Checked ℕ) → RoomFor a → unpacked (packed a) ≡ a
unfolding packed unpacked
answer_back (fine n) h = go (eqb (n / 2 ^ 56) 0) refl
  where
    go : (b : Bool) → eqb (n / 2 ^ 56) 0 ≡ b → unpacked n ≡ fine n
    go true e = rw (e, unpacked)
    go false e = absurd (eqb-false (n / 2 ^ 56) 0 e (omega arith))
answer_back (refused r) h = go (eqb (packed_refusal r / 2 ^ 56) 0) refl
  where
    go : (b : Bool) → eqb (packed_refusal r / 2 ^ 56) 0 ≡ b → unpacked (packed_refusal r) ≡ refused r
    go true e = absurd (omega (arith, eqb-true (packed_refusal r / 2 ^ 56) 0 e, number_back r h.0, h.1))
    go false e = rw (e, unpacked) (ap refused (refusal_back r h.0))

-- so two answers that are packed to one number are one answer
pub one_packed : (a b : Checked ℕ) → RoomFor a → RoomFor b → packed a ≡ packed b → a ≡ b
one_packed a b ha hb e = sym (answer_back a ha) ∙ ap unpacked e ∙ answer_back b hb

-- and a report is never taken for a refusal
pub never_both : (n : ℕ) (r : Refusal) → RoomFor (fine n) → RoomFor (refused r) → packed (fine n) ≡ packed (refused r) → ⊥
never_both n r hn hr e = not_fine (sym (one_packed (fine n) (refused r) hn hr e))
