-- A list of checks that refused nothing: each of its tests failed to hold. And what follows from tests of several parts.
use Prim.Native.Nat.{ℕ, zero, suc, ◌<◌}
use mathlib.Core.List.{List, [], ◌∷◌}
use mathlib.Core.Path.{◌≡◌, refl, ap, ◌∙◌}
use mathlib.Core.Logic.{◌⊎◌, inl, inr}
use mathlib.Core.Bool.{Bool, true, false, cond, ◌&&◌, not}
use native.Mathlib.Nat.{le_of_suc-le-suc, not-suc-le-zero}
use lib.ListN.{length, get_or}
use Rattle.definitions.specs.Checks.{fine, refusal, Check, ◌⇒◌, first, for_each, any}
use Rattle.definitions.specs.Chains.{Mem}
use Rattle.definitions.proofs.Fold.{not_fine, each_at}

head_passes : (c : Check) (cs : List Check) {u : Unit {0}} → first (c ∷ cs) ≡ fine u → (c.fails ≡ false) × (first cs ≡ fine u)
unfolding first
head_passes c cs {u} e = go c.fails refl
  where
    go : (b : Bool) → c.fails ≡ b → (c.fails ≡ false) × (first cs ≡ fine u)
    go true h = absurd (not_fine (rw (h, first) at e))
    go false h = (h, rw (h, first) at e)

-- the i-th test of a list whose `first` found nothing
pub passes : (cs : List Check) {u : Unit {0}} → first cs ≡ fine u → (i : ℕ) → i < length cs → (get_or cs i (false ⇒ refusal 0 0 0)).fails ≡ false
passes [] e i h = absurd (not-suc-le-zero h)
passes (c ∷ cs) e zero h = (head_passes c cs e).0
passes (c ∷ cs) e (suc i) h = passes cs (head_passes c cs e).1 i (le_of_suc-le-suc h)

pub for_each_at : (checks : ℕ → List Check) (l : List ℕ) {u : Unit {0}} → for_each checks l ≡ fine u → (i : ℕ) → Mem i l → (v : Unit {0}) × (first (checks i) ≡ fine v)
unfolding for_each
for_each_at checks l {u} e i h = let t = each_at (λ j _. first (checks j)) l tt u e i h in (t.1, t.2)

pub any_none : (p : ℕ → Bool) (l : List ℕ) → any p l ≡ false → (i : ℕ) → Mem i l → p i ≡ false
unfolding any
any_none p [] e i h = absurd h
any_none p (x ∷ l) e i h = go (p x) refl h (λ q r. any_none p l q i r)
  where
    go : (b : Bool) → p x ≡ b → (i ≡ x) ⊎ Mem i l → (any p l ≡ false → Mem i l → p i ≡ false) → p i ≡ false
    go true w k ih = let z : true ≡ false = rw (w, any) at e in cc
    go false w (inl k) ih = ap p k ∙ w
    go false w (inr k) ih = ih (rw (w, any) at e) k

pub none_any : (p : ℕ → Bool) (l : List ℕ) → ((i : ℕ) → Mem i l → p i ≡ false) → any p l ≡ false
unfolding any
none_any p [] h = refl
none_any p (x ∷ l) h = rw (h x (inl refl), any) (none_any p l (λ i q. h i (inr q)))

pub when_left : (a b : Bool) → a ≡ true → (a && b) ≡ false → b ≡ false
when_left true b h k = k
when_left false b h k = cc

pub and_not : (a b : Bool) → (a && not b) ≡ false → (b ≡ true) ⊎ (a ≡ false)
and_not true true h = inl refl
and_not true false h = inr h
and_not false b h = inr refl

-- what holds of both that a test chooses from
pub cond_keeps : {A : Type 0} (P : A → Type 0) (b : Bool) (x y : A) → P x → P y → P (cond b x y)
cond_keeps P true x y h k = h
cond_keeps P false x y h k = k
