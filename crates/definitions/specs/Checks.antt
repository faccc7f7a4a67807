-- 01, 8.1 and 8.2: refusals, and steps that refuse or go on. Steps are taken in order, and the first refusal ends all.
use Rattle.std.specs.Prelude.{ℕ, suc, List, [], ◌∷◌, Bool, true, false}

-- 8.1 A refusal has five values: number; function; place; cause; and the cause's number
pub record Refusal : Type 0 where
  pub number : ℕ
  pub function : ℕ
  pub place : ℕ
  pub cause : ℕ
  pub cause_number : ℕ

-- a value that nothing names is zero
unfoldable pub refusal : ℕ → ℕ → ℕ → Refusal
refusal n f p = record { number = n; function = f; place = p; cause = 0; cause_number = 0 }

-- what a step comes to: a refusal, or what it gives
pub data Checked (A : Type 0) : Type 0 where
  refused : Refusal → Checked A
  fine : A → Checked A

-- one step and then another
infixl 10 ◌>>=◌
unfoldable pub ◌>>=◌ : {A B : Type 0} → Checked A → (A → Checked B) → Checked B
refused r >>= k = refused r
fine a >>= k = k a

-- a test, and the refusal where it holds
pub record Check : Type 0 where
  pub fails : Bool
  pub with_refusal : Refusal

infix 5 ◌⇒◌
unfoldable pub ◌⇒◌ : Bool → Refusal → Check
b ⇒ r = record { fails = b; with_refusal = r }

-- "The checks are made in the order in which they stand, and the first that fails gives the refusal" (2)
unfoldable pub first : List Check → Checked (Unit {0})
first [] = fine tt
first (c ∷ cs) = elim c.fails [ true ↦ refused c.with_refusal | false ↦ first cs ]

-- a step for each element of a list, in order, over a state
unfoldable pub each : {A S : Type 0} → (A → S → Checked S) → List A → S → Checked S
each step [] s = fine s
each step (a ∷ rest) s = step a s >>= λ s'. each step rest s'

-- checks for each element of a list, in order
unfoldable pub for_each : (ℕ → List Check) → List ℕ → Checked (Unit {0})
for_each checks l = each (λ i _. first (checks i)) l tt

-- steps that refuse nothing
unfoldable pub through : {A S : Type 0} → (A → S → S) → List A → S → S
through step [] s = s
through step (a ∷ rest) s = through step rest (step a s)

-- some number of a list passes a test, and how many do
unfoldable pub any : (ℕ → Bool) → List ℕ → Bool
any p [] = false
any p (x ∷ xs) = elim (p x) [ true ↦ true | false ↦ any p xs ]

unfoldable pub count : (ℕ → Bool) → List ℕ → ℕ
count p [] = 0
count p (x ∷ xs) = elim (p x) [ true ↦ suc (count p xs) | false ↦ count p xs ]
