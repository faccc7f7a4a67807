-- The order of pairs is the order of their keys.
use Prim.Native.Nat.{ℕ, ◌+◌, ◌*◌, ◌<◌, ◌≤◌}
use native.Mathlib.Omega.{arith}
use mathlib.Core.Path.{◌≡◌, refl, sym, ◌∙◌}
use mathlib.Core.Bool.{Bool, true, false, ◌&&◌, ◌||◌}
use lib.Dec.{ltb, eqb}
use borrow.Author.Tests.{ltb-true, ltb-false, eqb-true, eqb-false, lt-ltb, le-ltb, eq-eqb, ne_eqb}
use Rattle.definitions.specs.Ends.{End, glob, arg, Pair, end_before, same_end, before}
use Rattle.definitions.specs.Report.{tag, end_number}
use Rattle.definitions.proofs.Order.{before_tri}
use Rattle.rules_pairs.specs.Keys.{end_key, key, SmallNumbers}

pub end_key_less : (x : End) → end_number x < 65536 → end_key x < 131072
unfolding end_key tag end_number
end_key_less (glob g) h = omega arith
end_key_less (arg a) h = omega arith

end_before_key : (x y : End) → end_number x < 65536 → end_number y < 65536 → end_before x y ≡ ltb (end_key x) (end_key y)
unfolding end_key tag end_number end_before
end_before_key (glob x) (glob y) h k = let p : 65536 * 0 + x ≡ x = omega arith in let q : 65536 * 0 + y ≡ y = omega arith in rw (p, q)
end_before_key (glob x) (arg y) h k = sym (lt-ltb (65536 * 0 + x) (65536 * 1 + y) (omega arith))
end_before_key (arg x) (glob y) h k = sym (le-ltb (65536 * 1 + x) (65536 * 0 + y) (omega arith))
end_before_key (arg x) (arg y) h k = go (ltb x y) refl
  where
    go : (b : Bool) → ltb x y ≡ b → ltb x y ≡ ltb (65536 * 1 + x) (65536 * 1 + y)
    go true e = e ∙ sym (lt-ltb (65536 * 1 + x) (65536 * 1 + y) (omega (arith, ltb-true x y e)))
    go false e = e ∙ sym (le-ltb (65536 * 1 + x) (65536 * 1 + y) (omega (arith, ltb-false x y e)))

same_end_key : (x y : End) → end_number x < 65536 → end_number y < 65536 → same_end x y ≡ eqb (end_key x) (end_key y)
unfolding end_key tag end_number same_end
same_end_key (glob x) (glob y) h k = let p : 65536 * 0 + x ≡ x = omega arith in let q : 65536 * 0 + y ≡ y = omega arith in rw (p, q)
same_end_key (glob x) (arg y) h k = sym (ne_eqb (65536 * 0 + x) (65536 * 1 + y) (λ e. omega arith))
same_end_key (arg x) (glob y) h k = sym (ne_eqb (65536 * 1 + x) (65536 * 0 + y) (λ e. omega arith))
same_end_key (arg x) (arg y) h k = go (eqb x y) refl
  where
    go : (b : Bool) → eqb x y ≡ b → eqb x y ≡ eqb (65536 * 1 + x) (65536 * 1 + y)
    go true e = e ∙ sym (eq-eqb (65536 * 1 + x) (65536 * 1 + y) (omega (arith, eqb-true x y e)))
    go false e = let n = eqb-false x y e in e ∙ sym (ne_eqb (65536 * 1 + x) (65536 * 1 + y) (λ q. n (omega arith)))

-- by the first number, then by the second
by_two : (a b c d : ℕ) → c < 131072 → d < 131072 → (ltb a b || (eqb a b && ltb c d)) ≡ ltb (131072 * a + c) (131072 * b + d)
by_two a b c d h k = go (ltb a b) (eqb a b) (ltb c d) refl refl refl
  where
    go : (x y z : Bool) → ltb a b ≡ x → eqb a b ≡ y → ltb c d ≡ z → (x || (y && z)) ≡ ltb (131072 * a + c) (131072 * b + d)
    go true y z p q r = sym (lt-ltb (131072 * a + c) (131072 * b + d) (omega (arith, ltb-true a b p)))
    go false true true p q r = sym (lt-ltb (131072 * a + c) (131072 * b + d) (omega (arith, eqb-true a b q, ltb-true c d r)))
    go false true false p q r = sym (le-ltb (131072 * a + c) (131072 * b + d) (omega (arith, eqb-true a b q, ltb-false c d r)))
    go false false z p q r =
        let n = eqb-false a b q in
        let m : b ≤ a = ltb-false a b p in
        sym (le-ltb (131072 * a + c) (131072 * b + d) (omega arith))

pub before_key : (p q : Pair) → SmallNumbers p → SmallNumbers q → before p q ≡ ltb (key p) (key q)
unfolding before key
before_key p q h k =
    let i = end_before_key p.image q.image h.image k.image in
    let e = same_end_key p.image q.image h.image k.image in
    let s = end_before_key p.sampler q.sampler h.sampler k.sampler in
    rw (i, e, s) (by_two _ _ _ _ (end_key_less p.sampler h.sampler) (end_key_less q.sampler k.sampler))

pub key_before : (p q : Pair) → SmallNumbers p → SmallNumbers q → key p < key q → before p q ≡ true
key_before p q h k lt = before_key p q h k ∙ lt-ltb (key p) (key q) lt

pub key_not_before : (p q : Pair) → SmallNumbers p → SmallNumbers q → key q ≤ key p → before p q ≡ false
key_not_before p q h k le = before_key p q h k ∙ le-ltb (key p) (key q) le

-- one key, one pair
pub key_same : (p q : Pair) → SmallNumbers p → SmallNumbers q → key p ≡ key q → p ≡ q
key_same p q h k e = before_tri p q (key_not_before p q h k (omega arith)) (key_not_before q p k h (omega arith))
