-- The tables COUNTS and REQUIRED are 01, 4.1's: tests over the whole of them, which are computed, and what they say
-- of each kind and position.
use Prim.Native.Nat.{ℕ, zero, suc, ◌≤◌, ◌<◌}
use native.Mathlib.Omega.{arith}
use mathlib.Core.Path.{◌≡◌, refl, sym, ap, ◌∙◌, subst}
use mathlib.Core.List.{List, [], ◌∷◌}
use mathlib.Core.Bool.{Bool, true, false, cond, ◌&&◌, not}
use lib.Dec.{ltb, leb, eqb}
use lib.ListN.{length, get_or}
use borrow.Author.Tests.{eqb-true, eqb-false, leb-true, lt-ltb, le-ltb, eq-eqb, ne_eqb}
use Rattle.definitions.specs.Module.{absent}
use Rattle.definitions.specs.Roles.{Role, must, may, mustn't, no_operand, operands_by_kind, level_1, level_2, role, takes, has_sub, misplaced}
use Rattle.form_expressions.specs.Required.{required, required_of}
use Rattle.form_records.proofs.CheckLists.{by_bool, and_both}

-- a test that every number below n passes
unfoldable pub all_below : (ℕ → Bool) → ℕ → Bool
all_below p zero = true
all_below p (suc n) = p n && all_below p n

pub at_each : (p : ℕ → Bool) (n : ℕ) → all_below p n ≡ true → (k : ℕ) → k < n → p k ≡ true
unfolding all_below
at_each p zero e k h = absurd (omega arith)
at_each p (suc n) e k h =
    let w = and_both (p n) (all_below p n) e in
    by_bool (eqb k n)
    (λ q. subst (λ (x : ℕ). p x ≡ true) (sym (eqb-true k n q)) w.0)
    (λ q. let ne : k ≡ n → ⊥ = eqb-false k n q in at_each p n w.1 k (omega arith))

-- how many operands a kind has
abbrev pub counts : List ℕ
counts = 0 ∷ 0 ∷ 0 ∷ 0 ∷ 0 ∷ 2 ∷ 1 ∷ 1 ∷ 1 ∷ 2 ∷ 3 ∷ 0 ∷ 4 ∷ 8 ∷ 5 ∷ 2 ∷ 1 ∷ 2 ∷ 3 ∷ []

full : ℕ → ℕ
full k = length (get_or (operands_by_kind 0) k [])

count_right : ℕ → Bool
count_right k = eqb (get_or counts k 0) (full k) && leb (full k) 8

pub counts_are : (k : ℕ) → k ≤ 18 → get_or counts k 0 ≡ length (get_or (operands_by_kind 0) k [])
unfolding count_right full operands_by_kind all_below level_1 level_2
counts_are k h = eqb-true _ _ (and_both (eqb (get_or counts k 0) (full k)) (leb (full k) 8) (at_each count_right 19 refl k (omega arith))).0

few_operands : (k : ℕ) → k ≤ 18 → full k ≤ 8
unfolding count_right full operands_by_kind all_below level_1 level_2
few_operands k h = leb-true _ _ (and_both (eqb (get_or counts k 0) (full k)) (leb (full k) 8) (at_each count_right 19 refl k (omega arith))).1

-- what a role asks: 0 that the operand is there, 1 nothing, 2 that it is absent
asks : Role → ℕ
asks (must u) = 0
asks (may u) = 1
asks mustn't = 2
asks no_operand = 1

misplaced_by : ℕ → ℕ → Bool
misplaced_by zero o = eqb o absent
misplaced_by (suc zero) o = false
misplaced_by (suc (suc n)) o = not (eqb o absent)

by_asks : (r : Role) (o : ℕ) → misplaced r o ≡ misplaced_by (asks r) o
unfolding misplaced misplaced_by asks
by_asks (must u) o = refl
by_asks (may u) o = refl
by_asks mustn't o = refl
by_asks no_operand o = refl

-- and what the code asks
wants : ℕ → ℕ → ℕ → ℕ
wants k s j =
    cond (ltb j (get_or required k 0)) 0
    (cond (eqb k 13) (cond (eqb j 4) (asks (level_1 s)) (cond (eqb j 5) (asks (level_2 s)) 1)) 1)

wants_right : ℕ → ℕ → ℕ → Bool
wants_right k s j = cond (ltb j (full k)) (eqb (asks (role k s j)) (wants k s j)) true

all_right : Bool
all_right = all_below (λ k. all_below (λ s. all_below (λ j. wants_right k s j) 8) 5) 19

every_right : all_right ≡ true
unfolding all_right all_below wants_right wants asks role full required operands_by_kind level_1 level_2
every_right = refl

-- so an operand of a record of 4.1 is misplaced as the code has it
small_sub : (k s : ℕ) → has_sub k s ≡ true → s < 5
unfolding has_sub
small_sub k s e =
    by_bool (eqb k 5)
    (λ p. let h = leb-true s 3 (rw p at e) in omega arith)
    (λ p. by_bool (eqb k 13)
    (λ q. let h = leb-true s 4 (rw (p, q) at e) in omega arith)
    (λ q. let h = eqb-true s 0 (rw (p, q) at e) in omega arith))

as_full : (k n j : ℕ) → eqb k 11 ≡ false → takes k n ≡ true → j < n → j < full k
unfolding takes full
as_full k n j p e h = let q = eqb-true n (length (get_or (operands_by_kind 0) k [])) (rw p at e) in omega arith

asked : (k s n j : ℕ) → k ≤ 18 → has_sub k s ≡ true → takes k n ≡ true → j < n → eqb k 11 ≡ false → asks (role k s j) ≡ wants k s j
unfolding all_right wants_right
asked k s n j hk hs hn hj p =
    let lt = as_full k n j p hn hj in
    let few = few_operands k hk in
    let small = small_sub k s hs in
    let row = at_each (λ x. all_below (λ y. all_below (λ z. wants_right x y z) 8) 5) 19 every_right k (omega arith) in
    let cell = at_each (λ z. wants_right k s z) 8 (at_each (λ y. all_below (λ z. wants_right k y z) 8) 5 row s small) j (omega arith) in
    eqb-true _ _ (rw (lt-ltb j (full k) lt) at cell)

compose_wants : (s j : ℕ) → j < 65535 → wants 11 s j ≡ 0
unfolding wants required
compose_wants s j h = rw (lt-ltb j 65535 h)

wants_are : (k s n j : ℕ) → k ≤ 18 → has_sub k s ≡ true → takes k n ≡ true → j < n → n < 65536 → asks (role k s j) ≡ wants k s j
unfolding role asks
wants_are k s n j hk hs hn hj small =
    by_bool (eqb k 11)
    (λ p. (let q = eqb-true k 11 p in rw (p, q, compose_wants s j (omega arith))))
    (λ p. asked k s n j hk hs hn hj p)

-- past the required ones nothing is asked, but for the levels of a sampling
pub must_be_there : (k s n j o : ℕ) → k ≤ 18 → has_sub k s ≡ true → takes k n ≡ true → j < n → n < 65536 → j < required_of k
    → misplaced (role k s j) o ≡ eqb o absent
unfolding required_of wants misplaced_by
must_be_there k s n j o hk hs hn hj small lt =
    by_asks (role k s j) o ∙ ap (λ x. misplaced_by x o) (wants_are k s n j hk hs hn hj small) ∙ rw (lt-ltb j (get_or required k 0) lt)

pub as_level : (k s n j o : ℕ) → k ≡ 13 → has_sub k s ≡ true → takes k n ≡ true → j < n → n < 65536 → required_of k ≤ j
    → misplaced (role k s j) o ≡ cond (eqb j 4) (misplaced (level_1 s) o) (cond (eqb j 5) (misplaced (level_2 s) o) false)
unfolding required_of wants misplaced_by
as_level k s n j o e hs hn hj small le =
    by_asks (role k s j) o ∙ ap (λ x. misplaced_by x o) (wants_are k s n j (omega arith) hs hn hj small)
    ∙ rw (le-ltb j (get_or required k 0) le, eq-eqb k 13 e) (
    by_bool (eqb j 4)
    (λ p. rw p (sym (by_asks (level_1 s) o)))
    (λ p. by_bool (eqb j 5) (λ q. rw (p, q) (sym (by_asks (level_2 s) o))) (λ q. rw (p, q))))

pub may_be_there : (k s n j o : ℕ) → k ≤ 18 → has_sub k s ≡ true → takes k n ≡ true → j < n → n < 65536 → required_of k ≤ j → (k ≡ 13 → ⊥)
    → misplaced (role k s j) o ≡ false
unfolding required_of wants misplaced_by
may_be_there k s n j o hk hs hn hj small le ne =
    by_asks (role k s j) o ∙ ap (λ x. misplaced_by x o) (wants_are k s n j hk hs hn hj small)
    ∙ rw (le-ltb j (get_or required k 0) le, ne_eqb k 13 ne)

-- the three
pub ruleset placed = (must_be_there, as_level, may_be_there)
