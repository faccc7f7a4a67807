-- A list of checks, test by test: which are passed, which refuses, and which may be joined. And steps one after
-- another.
use Prim.Native.Nat.{ℕ}
use native.Mathlib.Omega.{arith}
use mathlib.Core.Path.{◌≡◌, refl, sym, ◌∙◌}
use mathlib.Core.List.{List, [], ◌∷◌, ◌++◌}
use mathlib.Core.Bool.{Bool, true, false, ◌&&◌, ◌||◌, not}
use Rattle.definitions.specs.Checks.{Refusal, Checked, fine, refused, ◌>>=◌, Check, ◌⇒◌, first}
use Rattle.form_records.specs.OperandChecks.{operands_found, operands_misplaced, operands_fine}

-- by what a test says
pub by_bool : {P : Type 0} (b : Bool) → (b ≡ true → P) → (b ≡ false → P) → P
by_bool true t f = t refl
by_bool false t f = f refl

-- both parts of a conjunction hold; one does not, so neither does it; and the same of a disjunction that does not hold
pub and_both : (a b : Bool) → (a && b) ≡ true → (a ≡ true) × (b ≡ true)
and_both true b e = (refl, e)
and_both false b e = absurd (let z : ◌≡◌ {A = ℕ} 0 1 = cc in omega arith)

pub and_neither : (a : Bool) {b : Bool} → b ≡ false → (a && b) ≡ false
and_neither true e = e
and_neither false e = refl

pub or_false : (a : Bool) → a ≡ (a || false)
or_false true = refl
or_false false = refl

pub or_neither : (a b : Bool) → (a || b) ≡ false → (a ≡ false) × (b ≡ false)
or_neither true b e = absurd (let z : ◌≡◌ {A = ℕ} 0 1 = cc in omega arith)
or_neither false b e = (refl, e)

-- what does not hold is not true
pub never : {P : Type 0} {b : Bool} → b ≡ false → b ≡ true → P
never e t = absurd (let z : ◌≡◌ {A = ℕ} 0 1 = cc in omega arith)

-- a test that does not hold is passed, one that holds refuses
pub pass : (b : Bool) (r : Refusal) (cs : List Check) → b ≡ false → first ((b ⇒ r) ∷ cs) ≡ first cs
unfolding first ◌⇒◌
pass b r cs e = rw e

pub stop : (b : Bool) (r : Refusal) (cs : List Check) → b ≡ true → first ((b ⇒ r) ∷ cs) ≡ refused r
unfolding first ◌⇒◌
stop b r cs e = rw e

-- the last of a list
pub pass_last : (b : Bool) (r : Refusal) → b ≡ false → first ((b ⇒ r) ∷ []) ≡ fine tt
unfolding first ◌⇒◌
pass_last b r e = rw e

-- two checks with one refusal are one check
pub join : (a b : Bool) (r : Refusal) (cs : List Check) → first ((a ⇒ r) ∷ (b ⇒ r) ∷ cs) ≡ first ((a || b ⇒ r) ∷ cs)
unfolding first ◌⇒◌
join true b r cs = refl
join false b r cs = refl

-- behind a check, lists that come to the same come to the same
pub behind : (c : Check) (cs ds : List Check) → first cs ≡ first ds → first (c ∷ cs) ≡ first (c ∷ ds)
unfolding first
behind c cs ds e = by_bool c.fails (λ q. rw (q, first)) (λ q. rw (q, first) e)

-- one list of checks and then another
pub first_append : (a b : List Check) → first (a ++ b) ≡ (first a >>= λ _. first b)
unfolding first ◌>>=◌
first_append [] b = refl
first_append (c ∷ a) b = go c.fails refl (first_append a b)
  where
    go : (t : Bool) → c.fails ≡ t → first (a ++ b) ≡ (first a >>= λ _. first b) → first ((c ∷ a) ++ b) ≡ (first (c ∷ a) >>= λ _. first b)
    go true e ih = rw (e, first)
    go false e ih = rw (e, first) ih

-- the three checks of a record's operands by what is found of them: the first, then others, then the two of one
-- refusal
pub operands_first : (a b c : Bool) (r q : Refusal) (ns cs : List Check)
    → first ((a && b ⇒ r) ∷ (ns ++ ((not a ⇒ q) ∷ (c ⇒ q) ∷ cs)))
    ≡ first ((operands_misplaced (operands_found a b c) ⇒ r) ∷ (ns ++ ((not (operands_fine (operands_found a b c)) ⇒ q) ∷ cs)))
unfolding first ◌⇒◌ operands_found
operands_first false b c r q ns cs = first_append ns _ ∙ sym (first_append ns _)
operands_first true true c r q ns cs = refl
operands_first true false true r q ns cs = first_append ns _ ∙ sym (first_append ns _)
operands_first true false false r q ns cs = first_append ns _ ∙ sym (first_append ns _)

-- a step that refuses ends all, one that does not goes on
pub refuses : {A B : Type 0} (o : Checked A) (k : A → Checked B) {r : Refusal} → o ≡ refused r → (o >>= k) ≡ refused r
unfolding ◌>>=◌
refuses o k e = rw e

pub goes : {A B : Type 0} (o : Checked A) (k : A → Checked B) {a : A} → o ≡ fine a → (o >>= k) ≡ k a
unfolding ◌>>=◌
goes o k e = rw e
