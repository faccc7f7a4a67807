-- Runs of steps one after another: of two lists, and of an extent of records, what its first holds, and the rest.
use Prim.Native.Nat.{ℕ, zero, suc, ◌+◌, ◌-◌, ◌≤◌, ◌<◌}
use native.Mathlib.Omega.{arith}
use mathlib.Core.List.{List, [], ◌∷◌, ◌++◌}
use mathlib.Core.Path.{◌≡◌, refl, sym, ap, ◌∙◌}
use lib.ListN.{length}
use Rattle.definitions.specs.Bytes.{range}
use Rattle.definitions.specs.Checks.{Checked, fine, refused, ◌>>=◌, each}

pub bind_assoc : {A B C : Type 0} (o : Checked A) (k : A → Checked B) (l : B → Checked C) → ((o >>= k) >>= l) ≡ (o >>= λ a. (k a >>= l))
unfolding ◌>>=◌
bind_assoc (refused r) k l = refl
bind_assoc (fine a) k l = refl

pub bind_same : {A B : Type 0} (o : Checked A) {k l : A → Checked B} → ((a : A) → k a ≡ l a) → (o >>= k) ≡ (o >>= l)
unfolding ◌>>=◌
bind_same (refused r) h = refl
bind_same (fine a) h = h a

pub bind_both : {A B : Type 0} {o p : Checked A} {k l : A → Checked B} → o ≡ p → ((a : A) → k a ≡ l a) → (o >>= k) ≡ (p >>= l)
bind_both {p = p} {k} e h = ap (λ x. x >>= k) e ∙ bind_same p h

-- steps that are equal give equal runs
pub each_same : {A S : Type 0} {step other : A → S → Checked S} → ((a : A) (s : S) → step a s ≡ other a s) → (l : List A) (s : S) → each step l s ≡ each other l s
unfolding each
each_same law [] s = refl
each_same law (a ∷ l) s = bind_both (law a s) (λ s'. each_same law l s')

pub each_append : {A S : Type 0} (step : A → S → Checked S) (xs ys : List A) (s : S) → each step (xs ++ ys) s ≡ (each step xs s >>= λ s'. each step ys s')
unfolding each ◌>>=◌
each_append step [] ys s = refl
each_append step (x ∷ xs) ys s =
    bind_same (step x s) (λ s'. each_append step xs ys s')
    ∙ sym (bind_assoc (step x s) (λ s'. each step xs s') (λ s'. each step ys s'))

range_add : (a x y : ℕ) → range a (x + y) ≡ range a x ++ range (a + x) y
unfolding range
range_add a zero y =
    let p : 0 + y ≡ y = omega arith in
    let q : a ≡ a + 0 = omega arith in
    ap (λ n. range a n) p ∙ ap (λ n. range n y) q
range_add a (suc x) y =
    let e : suc x + y ≡ suc (x + y) = omega arith in
    let q : suc a + x ≡ a + suc x = omega arith in
    ap (range a) e ∙ (ap (λ l. a ∷ l) (range_add (suc a) x y) ∙ ap (λ n. a ∷ (range (suc a) x ++ range n y)) q)

pub range_split : (a b c : ℕ) → a ≤ b → b ≤ c → range a (c - a) ≡ range a (b - a) ++ range b (c - b)
range_split a b c h k =
    let p : c - a ≡ (b - a) + (c - b) = omega arith in
    let q : a + (b - a) ≡ b = omega arith in
    ap (range a) p ∙ (range_add a (b - a) (c - b) ∙ ap (λ n. range a (b - a) ++ range n (c - b)) q)

pub range_length : (i n : ℕ) → length (range i n) ≡ n
unfolding range
range_length i zero = refl
range_length i (suc n) = ap suc (range_length (suc i) n)

-- what is left of a run over numbers: its first step and the rest, and nothing
pub run_left : {S : Type 0} (step : ℕ → S → Checked S) (i n : ℕ) (s : S) → i < n
    → each step (range i (n - i)) s ≡ (step i s >>= λ s'. each step (range (i + 1) (n - (i + 1))) s')
unfolding each range
run_left step i n s h =
    let e : n - i ≡ suc (n - (i + 1)) = omega arith in
    let q : suc i ≡ i + 1 = omega arith in
    ap (λ k. each step (range i k) s) e ∙ bind_same (step i s) (λ s'. ap (λ k. each step (range k (n - (i + 1))) s') q)

pub run_done : {S : Type 0} (step : ℕ → S → Checked S) (i n : ℕ) (s : S) → n ≤ i → each step (range i (n - i)) s ≡ fine s
unfolding each range
run_done step i n s h = let e : n - i ≡ 0 = omega arith in ap (λ k. each step (range i k) s) e

-- the record at t, what it holds, and the rest of the extent
pub extent_run : {S : Type 0} (step : ℕ → S → Checked S) (t inner end : ℕ) (s : S) → t < inner → inner ≤ end
    → each step (range t (end - t)) s
    ≡ (step t s >>= λ s₁. (each step (range (t + 1) (inner - (t + 1))) s₁ >>= λ s₂. each step (range inner (end - inner)) s₂))
extent_run step t inner end s h k =
    run_left step t end s (omega arith)
    ∙ bind_same (step t s) (λ s₁.
    ap (λ l. each step l s₁) (range_split (t + 1) inner end (omega arith) k)
    ∙ each_append step (range (t + 1) (inner - (t + 1))) (range inner (end - inner)) s₁)
