-- The arithmetic of the quick test: a difference of four bytes shows the count, and the upper bits of a sum show that
-- operands are earlier.
use Prim.Native.Nat.{ℕ, ◌+◌, ◌-◌, ◌*◌, ◌/◌, ◌%◌, ◌^◌, ◌≤◌, ◌<◌}
use native.Mathlib.Omega.{arith}
use mathlib.Core.Path.{◌≡◌, refl, sym, ap, ◌∙◌, subst}
use mathlib.Core.Bool.{true}
use lib.Dec.{ltb, eqb}
use mir.Syntax.{w32}
use Rattle.std.specs.Int.{rotate_left}
use Rattle.std.proofs.lemmas.Nat.{or_shifted}
use lib.Bits.{bit_and, bit_or, and_le_l, and_le_r, or_lt, or_add_and, and_mask, and_shr, or_shr, and_mod, or_mod}
use borrow.Author.Tests.{eqb-true, ltb-true, ltb-false}
use Rattle.form_records.proofs.CheckLists.{by_bool}

-- `first` and `count` as one number t: where what is left of it without `full` is a number in the upper half alone,
-- `count` is `full`
pub split_by_count : (t f full r : ℕ) → t < 4294967296 → f < 65536 → f ≡ full → r ≡ rotate_left w32 ((t + (4294967296 - f)) % 4294967296) 16
    → r < 65536 → t ≡ 65536 * r + full
split_by_count t f full r small few same rotated lt =
    let d = (t + (4294967296 - f)) % 4294967296 in
    let q : d ≡ (t + (4294967296 - f)) % 4294967296 = refl in
    let halves : d * 65536 % 4294967296 ≡ d % 65536 * 65536 = omega arith in
    let high : d / 65536 < 65536 = omega arith in
    let e : r ≡ d % 65536 * 65536 + d / 65536 = rotated ∙ (ap (λ n. bit_or n (d / 65536)) halves ∙ or_shifted (d % 65536) 16 (d / 65536) high) in
    let lower : d % 65536 ≡ 0 = omega (arith, e, lt) in
    let whole : d ≡ 65536 * r = omega (arith, e, lower) in
    by_bool (ltb t f)
    (λ p. absurd (let h = ltb-true t f p in let w : d ≡ t + (4294967296 - f) = omega (arith, q, h, small) in omega (arith, w, whole, h, few)))
    (λ p. let h = ltb-false t f p in let w : d ≡ t - f = omega (arith, q, h, small) in omega (arith, w, whole, h, same))

-- no bit is set in either of two numbers
none_set : (a b : ℕ) → bit_or a b ≡ 0 → (a ≡ 0) × (b ≡ 0)
none_set a b e = (omega (arith, e, or_add_and a b, and_le_r a b), omega (arith, e, or_add_and a b, and_le_l a b))

-- the upper two bits of numbers below 2 ^ (k + 2), where a guard asks for them
upper_two : (k x y guard : ℕ) → x / 2 ^ k < 4 → y / 2 ^ k < 4 → guard / 2 ^ k ≡ 3 → bit_and (bit_or x y) guard / 2 ^ k ≡ 0 → (x / 2 ^ k ≡ 0) × (y / 2 ^ k ≡ 0)
upper_two k x y guard hx hy g z =
    let a = x / 2 ^ k in
    let b = y / 2 ^ k in
    let asked : bit_and (bit_or a b) 3 ≡ 0 = ap (λ n. bit_and n 3) (sym (or_shr x y k)) ∙ (ap (bit_and (bit_or x y / 2 ^ k)) (sym g) ∙ (sym (and_shr (bit_or x y) guard k) ∙ z)) in
    let masked : bit_and (bit_or a b) 3 ≡ bit_or a b % 4 = and_mask (bit_or a b) 2 in
    let small : bit_or a b < 4 = or_lt 2 a b hx hy in
    none_set a b (omega (arith, asked, masked, small))

guarded_first : (e q r guard : ℕ) → e ≤ 16384 → q < 4294967296 → r ≡ (q + (16384 - e) * 65537) % 4294967296 → guard / 1073741824 ≡ 3
    → bit_and (bit_or r q) guard ≡ 0 → (q < 1073741824) × (r < 1073741824) × (q / 65536 < e)
guarded_first e q r guard few small added g z =
    let w = upper_two 30 r q guard (omega arith) (omega arith) g (ap (λ n. n / 1073741824) z) in
    let hr : r < 1073741824 = omega (arith, w.0) in
    let hq : q < 1073741824 = omega (arith, w.1) in
    let sum : r ≡ q + (16384 - e) * 65537 = omega (arith, added, hq) in
    (hq, hr, omega (arith, sum, hr))

guarded_both : (e q r : ℕ) → e ≤ 16384 → q < 4294967296 → r ≡ (q + (16384 - e) * 65537) % 4294967296
    → bit_and (bit_or r q) 3221274624 ≡ 0 → (q / 65536 < e) × (q % 65536 < e)
guarded_both e q r few small added z =
    let top = guarded_first e q r 3221274624 few small added refl z in
    let low : bit_and (bit_or (r % 65536) (q % 65536)) 49152 ≡ 0 = ap (λ n. bit_and n 49152) (sym (or_mod r q 16)) ∙ (sym (and_mod (bit_or r q) 3221274624 16) ∙ ap (λ n. n % 65536) z) in
    let w = upper_two 14 (r % 65536) (q % 65536) 49152 (omega arith) (omega arith) refl (ap (λ n. n / 16384) low) in
    let hr : r % 65536 < 16384 = omega (arith, w.0) in
    let hq : q % 65536 < 16384 = omega (arith, w.1) in
    (top.2, omega (arith, top.0, top.1))

pub earlier_by_guard : (e a b q r guard : ℕ) → e ≤ 16384 → a < 65536 → b < 65536 → q ≡ 65536 * a + b → r ≡ (q + (16384 - e) * 65537) % 4294967296
    → eqb (bit_and (bit_or r q) guard) 0 ≡ true → (guard ≡ 3221225472 → a < e) × (guard ≡ 3221274624 → (a < e) × (b < e))
earlier_by_guard e a b q r guard few ha hb joined added t =
    let z : bit_and (bit_or r q) guard ≡ 0 = eqb-true _ 0 t in
    let small : q < 4294967296 = omega arith in (
      λ g. (let w = guarded_first e q r guard few small added (ap (λ y. y / 1073741824) g) z in omega (arith, w.2, joined)),
      λ g. (let w = guarded_both e q r few small added (subst (λ (y : ℕ). bit_and (bit_or r q) y ≡ 0) g z) in (omega (arith, w.0, joined), omega (arith, w.1, joined))),
    )
