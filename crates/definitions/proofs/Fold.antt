-- What a run of steps that refused nothing has done: each step's own law, summed over the list.
use mathlib.Core.List.{List, [], ◌∷◌}
use mathlib.Core.Path.{◌≡◌, refl, sym, ap, subst}
use mathlib.Core.Logic.{◌⊎◌, inl, inr}
use Rattle.definitions.specs.Checks.{Checked, fine, refused, Refusal, ◌>>=◌, each}
use Rattle.definitions.specs.Chains.{Mem}

abbrev Fine : {A : Type 0} → Checked A → Type 0
Fine (refused r) = ⊥
Fine (fine a) = Unit {0}

from_fine : {A : Type 0} → A → Checked A → A
from_fine d (refused r) = d
from_fine d (fine a) = a

pub fine_inj : {A : Type 0} {a b : A} → fine a ≡ fine b → a ≡ b
unfolding from_fine
fine_inj {a} e = ap (from_fine a) e

pub not_fine : {A : Type 0} {r : Refusal} {a : A} → refused r ≡ fine a → ⊥
not_fine e = subst Fine (sym e) tt

-- a step and what follows it were both fine
pub bind_fine : {A B : Type 0} (o : Checked A) (k : A → Checked B) {b : B} → (o >>= k) ≡ fine b → (a : A) × (o ≡ fine a) × (k a ≡ fine b)
unfolding ◌>>=◌
bind_fine (refused r) k e = absurd (not_fine e)
bind_fine (fine a) k e = (a, refl, e)

module _ {A S : Type 0} (step : A → S → Checked S) where
  -- what every step keeps, the run keeps
  pub each_keeps : (P : S → Type 0) → ((a : A) (s s' : S) → step a s ≡ fine s' → P s → P s')
      → (l : List A) (s s' : S) → each step l s ≡ fine s' → P s → P s'
  unfolding each
  each_keeps P law [] s s' e h = subst P (fine_inj e) h
  each_keeps P law (a ∷ l) s s' e h =
      let t = bind_fine (step a s) (λ u. each step l u) e in
      each_keeps P law l t.0 s' t.2 (law a s t.0 t.1 h)

  -- the same, of a step that is taken for an element of the list
  pub each_keeps_in : (P : S → Type 0) (l : List A) → ((a : A) → Mem a l → (s s' : S) → step a s ≡ fine s' → P s → P s')
      → (s s' : S) → each step l s ≡ fine s' → P s → P s'
  unfolding each
  each_keeps_in P [] law s s' e h = subst P (fine_inj e) h
  each_keeps_in P (a ∷ l) law s s' e h =
      let t = bind_fine (step a s) (λ u. each step l u) e in
      each_keeps_in P l (λ b q. law b (inr q)) t.0 s' t.2 (law a (inl refl) s t.0 t.1 h)

  module _ {X : Type 0} (Has : X → S → Type 0) (Adds : A → X → Type 0) where
    -- where each step adds exactly what `Adds` says, the run adds exactly what `Adds` says of the list's elements
    pub each_from : ((a : A) (s s' : S) → step a s ≡ fine s' → (x : X) → Has x s' → Has x s ⊎ Adds a x)
        → (l : List A) (s s' : S) → each step l s ≡ fine s' → (x : X) → Has x s' → Has x s ⊎ ((a : A) × Mem a l × Adds a x)
    unfolding each
    each_from law [] s s' e x h = inl (subst (Has x) (sym (fine_inj e)) h)
    each_from law (a ∷ l) s s' e x h = go (bind_fine (step a s) (λ u. each step l u) e) (λ u q. each_from law l u s' q x h)
      where
        Goal : Type 0
        Goal = Has x s ⊎ ((b : A) × Mem b (a ∷ l) × Adds b x)

        last : Has x s ⊎ Adds a x → Goal
        last (inl k) = inl k
        last (inr k) = inr (a, inl refl, k)

        more : (u : S) → step a s ≡ fine u → Has x u ⊎ ((b : A) × Mem b l × Adds b x) → Goal
        more u q (inl k) = last (law a s u q x k)
        more u q (inr k) = inr (k.0, inr k.1, k.2)

        go : (u : S) × (step a s ≡ fine u) × (each step l u ≡ fine s') → ((u : S) → each step l u ≡ fine s' → Has x u ⊎ ((b : A) × Mem b l × Adds b x)) → Goal
        go t ih = more t.0 t.1 (ih t.0 t.2)

    pub each_to : ((a : A) (s s' : S) → step a s ≡ fine s' → (x : X) → Has x s ⊎ Adds a x → Has x s')
        → (l : List A) (s s' : S) → each step l s ≡ fine s' → (x : X) → Has x s ⊎ ((a : A) × Mem a l × Adds a x) → Has x s'
    unfolding each
    each_to law [] s s' e x (inl h) = subst (Has x) (fine_inj e) h
    each_to law [] s s' e x (inr h) = absurd h.1
    each_to law (a ∷ l) s s' e x h = go (bind_fine (step a s) (λ u. each step l u) e) (λ u q k. each_to law l u s' q x k) h
      where
        at : (u : S) → step a s ≡ fine u → (Has x u ⊎ ((b : A) × Mem b l × Adds b x) → Has x s')
            → (b : A) → (b ≡ a) ⊎ Mem b l → Adds b x → Has x s'
        at u q ih b (inl w) d = ih (inl (law a s u q x (inr (subst (λ v. Adds v x) w d))))
        at u q ih b (inr w) d = ih (inr (b, w, d))

        go : (u : S) × (step a s ≡ fine u) × (each step l u ≡ fine s')
            → ((u : S) → each step l u ≡ fine s' → Has x u ⊎ ((b : A) × Mem b l × Adds b x) → Has x s')
            → Has x s ⊎ ((b : A) × Mem b (a ∷ l) × Adds b x) → Has x s'
        go t ih (inl k) = ih t.0 t.2 (inl (law a s t.0 t.1 x (inl k)))
        go t ih (inr k) = at t.0 t.1 (ih t.0 t.2) k.0 k.1 k.2

-- in a run that refused nothing each element had its step
pub each_at : {A S : Type 0} (step : A → S → Checked S) (l : List A) (s s' : S) → each step l s ≡ fine s'
    → (a : A) → Mem a l → (u : S) × (u' : S) × (step a u ≡ fine u')
unfolding each
each_at step [] s s' e a h = absurd h
each_at {A} {S} step (b ∷ l) s s' e a (inl h) =
    let t = bind_fine (step b s) (λ u. each step l u) e in
    (s, t.0, subst (λ v. step v s ≡ fine t.0) (sym h) t.1)
each_at step (b ∷ l) s s' e a (inr h) =
    let t = bind_fine (step b s) (λ u. each step l u) e in
    each_at step l t.0 s' t.2 a h
