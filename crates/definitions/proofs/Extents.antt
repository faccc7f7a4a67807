-- The walk, a statement at a time: what a loop that calls itself computes. The bound on the records met is gone after this file.
use Prim.Native.Nat.{ℕ, zero, suc, ◌+◌, ◌-◌, ◌≤◌, ◌<◌}
use native.Mathlib.Omega.{arith}
use mathlib.Core.List.{List, ◌∷◌, ◌++◌}
use mathlib.Core.Path.{◌≡◌, refl, sym, ap, ◌∙◌}
use mathlib.Core.Logic.{◌⊎◌, inl, inr, ⊎_elim}
use mathlib.Core.Bool.{Bool, true, false}
use lib.Dec.{ltb}
use borrow.Author.Tests.{lt-ltb, le-ltb, ltb-true, ltb-false}
use Rattle.definitions.specs.Bytes.{range}
use Rattle.definitions.specs.Limits.{Limits}
use Rattle.definitions.specs.Module.{statements, s_end}
use Rattle.definitions.specs.Checks.{Checked, fine, ◌>>=◌, each}
use Rattle.definitions.specs.State.{State}
use Rattle.definitions.specs.Summary.{Section}
use Rattle.definitions.specs.Walk.{Disruptor, undisrupted, Outcome, nothing, joined, Walked, effect, own, inside_start, next, go, onward, walk, walk_all, visited}
use Rattle.definitions.proofs.Fold.{bind_fine, fine_inj}
use Rattle.definitions.proofs.Runs.{bind_same, range_split, extent_run, run_done}
use Rattle.definitions.proofs.Loops.{range_left, range_done}
use Rattle.definitions.proofs.Formed.{SheetFormed}
use Rattle.definitions.proofs.Nesting.{ends_past, nested, ends_inside}

pub lt_or_ge : (a b : ℕ) → (a < b) ⊎ (b ≤ a)
lt_or_ge a b = by_test (ltb a b) refl where
  by_test : (t : Bool) → ltb a b ≡ t → (a < b) ⊎ (b ≤ a)
  by_test true e = inl (ltb-true a b e)
  by_test false e = inr (ltb-false a b e)

-- every record from lo up to hi ends after itself and within hi
pub record Closed (m : List ℕ) (f lo hi : ℕ) : Type 0 where
  pub after : (t : ℕ) → lo ≤ t → t < hi → t < s_end m f t
  pub within : (t : ℕ) → lo ≤ t → t < hi → s_end m f t ≤ hi

-- an extent of a table all of whose records hold closed extents
pub record Extent (m : List ℕ) (f lo hi : ℕ) : Type 0 where
  pub in_table : hi ≤ statements m f
  pub held : (t : ℕ) → t < statements m f → Closed m f (t + 1) (s_end m f t)
  pub closed : Closed m f lo hi

-- the whole table of a function whose form has passed
pub whole_table : (L : Limits) (m : List ℕ) (f : ℕ) → SheetFormed L m f → Extent m f 0 (statements m f)
whole_table L m f h = record {
  in_table = omega arith;
  held = λ s lt. let b = ends_inside L m f h s lt in record {
    after = λ t lo hi. ends_past L m f h t (omega arith);
    within = λ t lo hi. nested L m f h t (omega arith) s (omega arith) hi;
  };
  closed = record { after = λ t lo hi. ends_past L m f h t hi; within = λ t lo hi. ends_inside L m f h t hi };
}

-- what is known of the first record of an extent that has one
pub record Here (m : List ℕ) (f at hi : ℕ) : Type 0 where
  pub after : at < s_end m f at
  pub within : s_end m f at ≤ hi
  pub inner : Extent m f (at + 1) (s_end m f at)
  pub rest : Extent m f (s_end m f at) hi

pub here : (m : List ℕ) (f at hi : ℕ) → Extent m f at hi → at < hi → Here m f at hi
here m f at hi x h =
    let u = x.in_table in
    let a : at < s_end m f at = x.closed.after at (omega arith) h in
    let b : s_end m f at ≤ hi = x.closed.within at (omega arith) h in
    record {
      after = a;
      within = b;
      inner = record { in_table = omega arith; held = x.held; closed = x.held at (omega arith) };
      rest = record {
        in_table = u;
        held = x.held;
        closed = record { after = λ t l v. x.closed.after t (omega arith) v; within = λ t l v. x.closed.within t (omega arith) v };
      };
    }

-- 5.8 Every record of an extent is met exactly once, in the order of the table, whatever the nesting
pub met_in_order : (m : List ℕ) (f n at hi : ℕ) → Extent m f at hi → hi - at ≤ n → visited n m f at hi ≡ range at (hi - at)
unfolding visited
met_in_order m f zero at hi x p = sym (range_done at hi (omega arith))
met_in_order m f (suc n) at hi x p =
    ⊎_elim
    (λ lt.
    let h = here m f at hi x lt in
    let a = met_in_order m f n (at + 1) (s_end m f at) h.inner (let y = h.after in omega arith) in
    let b = met_in_order m f n (s_end m f at) hi h.rest (let y = h.after in omega arith) in
    rw (lt-ltb at hi lt, visited)
    (ap (λ l. at ∷ (l ++ visited n m f (s_end m f at) hi)) a
    ∙ (ap (λ l. at ∷ (range (at + 1) (s_end m f at - (at + 1)) ++ l)) b
    ∙ (ap (λ l. at ∷ l) (sym (range_split (at + 1) (s_end m f at) hi (let y = h.after in omega arith) h.within)) ∙ sym (range_left at hi lt)))))
    (λ ge. rw (le-ltb at hi ge, visited) (sym (range_done at hi ge)))
    (lt_or_ge at hi)

module _ (L : Limits) (m : List ℕ) (done : List Section) (f : ℕ) where
  -- a statement, then the rest
  abbrev pub stepped : ℕ → ℕ → Disruptor → Disruptor → Outcome → State → Checked Walked
  stepped at hi b d out s =
      own L m done f at d s >>= λ w₁.
      walk L m done f (at + 1) (s_end m f at) (inside_start m f at d w₁.state) w₁.state >>= λ w₂.
      onward L m done f (s_end m f at) hi b (next m f at b d (joined w₁.outcome w₂.outcome)) (joined out (joined w₁.outcome w₂.outcome)) w₂.state

  -- any bound that the extent's length allows gives the same
  enough : (n k at hi : ℕ) (b d : Disruptor) (out : Outcome) (s : State) → Extent m f at hi → hi - at ≤ n → hi - at ≤ k
      → go n L m done f at hi b d out s ≡ go k L m done f at hi b d out s
  unfolding go
  enough zero zero at hi b d out s x p q = refl
  enough zero (suc k) at hi b d out s x p q = rw (le-ltb at hi (omega arith), go)
  enough (suc n) zero at hi b d out s x p q = rw (le-ltb at hi (omega arith), go)
  enough (suc n) (suc k) at hi b d out s x p q =
      ⊎_elim
      (λ lt.
      let h = here m f at hi x lt in
      rw (lt-ltb at hi lt, go)
      (bind_same (own L m done f at d s) (λ w₁.
      rw (enough n k (at + 1) (s_end m f at) (inside_start m f at d w₁.state) (inside_start m f at d w₁.state) nothing w₁.state h.inner (omega arith) (omega arith))
      (bind_same (go k L m done f (at + 1) (s_end m f at) (inside_start m f at d w₁.state) (inside_start m f at d w₁.state) nothing w₁.state) (λ w₂.
      enough n k (s_end m f at) hi b _ _ w₂.state h.rest (omega arith) (omega arith))))))
      (λ ge. rw (le-ltb at hi ge, go))
      (lt_or_ge at hi)

  pub walk_done : (at hi : ℕ) (b d : Disruptor) (out : Outcome) (s : State) → hi ≤ at → onward L m done f at hi b d out s ≡ fine (record { state = s; outcome = out })
  unfolding onward go
  walk_done at hi b d out s h = at_any (hi - at) where
    at_any : (n : ℕ) → go n L m done f at hi b d out s ≡ fine (record { state = s; outcome = out })
    at_any zero = refl
    at_any (suc n) = rw (le-ltb at hi h, go)

  pub walk_step : (at hi : ℕ) (b d : Disruptor) (out : Outcome) (s : State) → Extent m f at hi → at < hi → onward L m done f at hi b d out s ≡ stepped at hi b d out s
  unfolding onward walk go
  walk_step at hi b d out s x lt =
      let h = here m f at hi x lt in
      enough (hi - at) (suc (hi - at)) at hi b d out s x (omega arith) (omega arith)
      ∙ rw (lt-ltb at hi lt, go)
      (bind_same (own L m done f at d s) (λ w₁.
      rw (enough (hi - at) (s_end m f at - (at + 1)) (at + 1) (s_end m f at) (inside_start m f at d w₁.state) (inside_start m f at d w₁.state) nothing w₁.state h.inner (omega arith) (omega arith))
      (bind_same (go (s_end m f at - (at + 1)) L m done f (at + 1) (s_end m f at) (inside_start m f at d w₁.state) (inside_start m f at d w₁.state) nothing w₁.state) (λ w₂.
      enough (hi - at) (hi - s_end m f at) (s_end m f at) hi b _ _ w₂.state h.rest (omega arith) (omega arith)))))

  own_effect : (t : ℕ) (d : Disruptor) (s : State) (w : Walked) → own L m done f t d s ≡ fine w → effect L m done f t s ≡ fine w.state
  unfolding own
  own_effect t d s w e =
      let a = bind_fine _ _ e in
      let b = bind_fine _ _ a.2 in
      a.1 ∙ ap (λ v. fine v.state) (fine_inj b.2)

  by_length : (n at hi : ℕ) (b d : Disruptor) (out : Outcome) (s : State) (w : Walked) → Extent m f at hi → hi - at ≤ n
      → onward L m done f at hi b d out s ≡ fine w → each (effect L m done f) (range at (hi - at)) s ≡ fine w.state
  unfolding walk ◌>>=◌ each
  by_length zero at hi b d out s w x p e =
      run_done (effect L m done f) at hi s (omega arith)
      ∙ ap (λ v. fine v.state) (fine_inj (sym (walk_done at hi b d out s (omega arith)) ∙ e))
  by_length (suc n) at hi b d out s w x p e =
      ⊎_elim
      (λ lt.
      let h = here m f at hi x lt in
      let e₁ = bind_fine _ _ (sym (walk_step at hi b d out s x lt) ∙ e) in
      let e₂ = bind_fine _ _ e₁.2 in
      let p₁ = own_effect at d s e₁.0 e₁.1 in
      let p₂ = by_length n (at + 1) (s_end m f at) _ _ nothing e₁.0.state e₂.0 h.inner (omega arith) e₂.1 in
      let p₃ = by_length n (s_end m f at) hi _ _ _ e₂.0.state w h.rest (omega arith) e₂.2 in
      extent_run (effect L m done f) at (s_end m f at) hi s h.after h.within
      ∙ (ap (λ v. v >>= λ s₁. (each (effect L m done f) (range (at + 1) (s_end m f at - (at + 1))) s₁ >>= λ s₂. each (effect L m done f) (range (s_end m f at) (hi - s_end m f at)) s₂)) p₁
      ∙ (ap (λ v. v >>= λ s₂. each (effect L m done f) (range (s_end m f at) (hi - s_end m f at)) s₂) p₂ ∙ p₃)))
      (λ ge.
      run_done (effect L m done f) at hi s ge
      ∙ ap (λ v. fine v.state) (fine_inj (sym (walk_done at hi b d out s ge) ∙ e)))
      (lt_or_ge at hi)

  -- 5.8 Every statement of the table is visited exactly once, in the order of the table, whatever the nesting: a walk that was not refused
  -- leaves what the statements' own effects leave, one after another
  pub visits : (lo hi : ℕ) (b : Disruptor) (s : State) (w : Walked) → Extent m f lo hi → walk L m done f lo hi b s ≡ fine w
      → each (effect L m done f) (range lo (hi - lo)) s ≡ fine w.state
  unfolding walk
  visits lo hi b s w x e = by_length (hi - lo) lo hi b b nothing s w x (omega arith) e

  pub visits_all : SheetFormed L m f → (s : State) (w : Walked) → walk_all L m done f s ≡ fine w
      → each (effect L m done f) (range 0 (statements m f)) s ≡ fine w.state
  unfolding walk_all
  visits_all h s w e =
      let z : statements m f - 0 ≡ statements m f = omega arith in
      ap (λ n. each (effect L m done f) (range 0 n) s) (sym z) ∙ visits 0 (statements m f) undisrupted s w (whole_table L m f h) e
