-- The walk by kinds, a statement and an arm at a time.
use Prim.Native.Nat.{ℕ, zero, suc, ◌+◌, ◌-◌, ◌≤◌, ◌<◌}
use native.Mathlib.Omega.{arith}
use mathlib.Core.List.{List}
use mathlib.Core.Path.{◌≡◌, refl, ap, ◌∙◌}
use mathlib.Core.Logic.{⊎_elim}
use mathlib.Core.Bool.{Bool, true, false, cond}
use lib.Dec.{eqb}
use borrow.Author.Tests.{lt-ltb, le-ltb}
use Rattle.definitions.specs.Limits.{Limits}
use Rattle.definitions.specs.Module.{s_kind, s_end}
use Rattle.definitions.specs.Checks.{Checked, fine, ◌>>=◌}
use Rattle.definitions.specs.Form.{holds_arms}
use Rattle.definitions.specs.State.{State}
use Rattle.definitions.specs.Summary.{Section}
use Rattle.definitions.specs.Walk.{Disruptor, or_then, Outcome, nothing, joined, exit, Walked, effect, own, inside_start}
use Rattle.definitions.specs.ByKinds.{next_arm, by_kind, statements_go, arms_go, statements_onward, arms_onward}
use Rattle.definitions.proofs.Runs.{bind_same}
use Rattle.definitions.proofs.Extents.{lt_or_ge, Extent, here}

module _ (L : Limits) (m : List ℕ) (done : List Section) (f : ℕ) where
  kind_same : (t : ℕ) (d : Disruptor) (s : State) {b b' : Checked Walked} {a a' : State → Checked Walked} → b ≡ b' → ((s' : State) → a s' ≡ a' s')
      → by_kind L m done f t d s b a ≡ by_kind L m done f t d s b' a'
  unfolding by_kind
  kind_same t d s {b} {b'} {a} {a'} h k = go (eqb (s_kind m f t) 7) (holds_arms (s_kind m f t))
    where
      go : (p q : Bool) → cond p b (cond q (effect L m done f t s >>= λ s'. a s') (own L m done f t d s))
          ≡ cond p b' (cond q (effect L m done f t s >>= λ s'. a' s') (own L m done f t d s))
      go true q = h
      go false true = bind_same (effect L m done f t s) k
      go false false = refl

  mutual
    unfolding statements_go

    -- any bound that the extent's length allows gives the same
    enough : (n k at hi : ℕ) (d : Disruptor) (out : Outcome) (s : State) → Extent m f at hi → hi - at ≤ n → hi - at ≤ k
        → statements_go n L m done f at hi d out s ≡ statements_go k L m done f at hi d out s
    enough zero zero at hi d out s x p q = refl
    enough zero (suc k) at hi d out s x p q = rw (le-ltb at hi (omega arith), statements_go)
    enough (suc n) zero at hi d out s x p q = rw (le-ltb at hi (omega arith), statements_go)
    enough (suc n) (suc k) at hi d out s x p q =
        ⊎_elim
        (λ lt.
        let h = here m f at hi x lt in
        rw (lt-ltb at hi lt, statements_go)
        (ap (λ v. v >>= λ w. statements_go n L m done f (s_end m f at) hi (or_then d (exit w.outcome)) (joined out w.outcome) w.state)
        (kind_same at d s
        (enough n k (at + 1) (s_end m f at) d nothing s h.inner (omega arith) (omega arith))
        (λ s'. enough_arms n k (eqb (s_kind m f at) 10) (at + 1) (s_end m f at) (inside_start m f at d s') (inside_start m f at d s') nothing s' h.inner (omega arith) (omega arith)))
        ∙ bind_same (by_kind L m done f at d s (statements_go k L m done f (at + 1) (s_end m f at) d nothing s) (λ s'. arms_go k L m done f (eqb (s_kind m f at) 10) (at + 1) (s_end m f at) (inside_start m f at d s') (inside_start m f at d s') nothing s'))
        (λ w. enough n k (s_end m f at) hi _ _ w.state h.rest (omega arith) (omega arith))))
        (λ ge. rw (le-ltb at hi ge, statements_go))
        (lt_or_ge at hi)

    enough_arms : (n k : ℕ) (body : Bool) (at hi : ℕ) (b d : Disruptor) (out : Outcome) (s : State) → Extent m f at hi → hi - at ≤ n → hi - at ≤ k
        → arms_go n L m done f body at hi b d out s ≡ arms_go k L m done f body at hi b d out s
    enough_arms zero zero body at hi b d out s x p q = refl
    enough_arms zero (suc k) body at hi b d out s x p q = rw (le-ltb at hi (omega arith), arms_go)
    enough_arms (suc n) zero body at hi b d out s x p q = rw (le-ltb at hi (omega arith), arms_go)
    enough_arms (suc n) (suc k) body at hi b d out s x p q =
        ⊎_elim
        (λ lt.
        let h = here m f at hi x lt in
        rw (lt-ltb at hi lt, arms_go)
        (ap (λ v. v >>= λ w. arms_go n L m done f false (s_end m f at) hi b (next_arm m f at body b d w.outcome) (joined out w.outcome) w.state)
        (enough n k (at + 1) (s_end m f at) d nothing s h.inner (omega arith) (omega arith))
        ∙ bind_same (statements_go k L m done f (at + 1) (s_end m f at) d nothing s)
        (λ w. enough_arms n k false (s_end m f at) hi b _ _ w.state h.rest (omega arith) (omega arith))))
        (λ ge. rw (le-ltb at hi ge, arms_go))
        (lt_or_ge at hi)

  pub done_statements : (at hi : ℕ) (d : Disruptor) (out : Outcome) (s : State) → hi ≤ at → statements_onward L m done f at hi d out s ≡ fine (record { state = s; outcome = out })
  unfolding statements_onward statements_go
  done_statements at hi d out s h = at_any (hi - at) where
    at_any : (n : ℕ) → statements_go n L m done f at hi d out s ≡ fine (record { state = s; outcome = out })
    at_any zero = refl
    at_any (suc n) = rw (le-ltb at hi h, statements_go)

  pub done_arms : (body : Bool) (at hi : ℕ) (b d : Disruptor) (out : Outcome) (s : State) → hi ≤ at → arms_onward L m done f body at hi b d out s ≡ fine (record { state = s; outcome = out })
  unfolding arms_onward statements_go
  done_arms body at hi b d out s h = at_any (hi - at) where
    at_any : (n : ℕ) → arms_go n L m done f body at hi b d out s ≡ fine (record { state = s; outcome = out })
    at_any zero = refl
    at_any (suc n) = rw (le-ltb at hi h, arms_go)

  pub step_statements : (at hi : ℕ) (d : Disruptor) (out : Outcome) (s : State) → Extent m f at hi → at < hi
      → statements_onward L m done f at hi d out s
      ≡ (by_kind L m done f at d s (statements_onward L m done f (at + 1) (s_end m f at) d nothing s)
      (λ s'. arms_onward L m done f (eqb (s_kind m f at) 10) (at + 1) (s_end m f at) (inside_start m f at d s') (inside_start m f at d s') nothing s')
      >>= λ w. statements_onward L m done f (s_end m f at) hi (or_then d (exit w.outcome)) (joined out w.outcome) w.state)
  unfolding statements_onward arms_onward statements_go
  step_statements at hi d out s x lt =
      let h = here m f at hi x lt in
      enough (hi - at) (suc (hi - at)) at hi d out s x (omega arith) (omega arith)
      ∙ rw (lt-ltb at hi lt, statements_go)
      (ap (λ v. v >>= λ w. statements_go (hi - at) L m done f (s_end m f at) hi (or_then d (exit w.outcome)) (joined out w.outcome) w.state)
      (kind_same at d s
      (enough (hi - at) (s_end m f at - (at + 1)) (at + 1) (s_end m f at) d nothing s h.inner (omega arith) (omega arith))
      (λ s'. enough_arms (hi - at) (s_end m f at - (at + 1)) (eqb (s_kind m f at) 10) (at + 1) (s_end m f at) (inside_start m f at d s') (inside_start m f at d s') nothing s' h.inner (omega arith) (omega arith)))
      ∙ bind_same (by_kind L m done f at d s (statements_onward L m done f (at + 1) (s_end m f at) d nothing s) (λ s'. arms_onward L m done f (eqb (s_kind m f at) 10) (at + 1) (s_end m f at) (inside_start m f at d s') (inside_start m f at d s') nothing s'))
      (λ w. enough (hi - at) (hi - s_end m f at) (s_end m f at) hi _ _ w.state h.rest (omega arith) (omega arith)))

  pub step_arms : (body : Bool) (at hi : ℕ) (b d : Disruptor) (out : Outcome) (s : State) → Extent m f at hi → at < hi
      → arms_onward L m done f body at hi b d out s
      ≡ (statements_onward L m done f (at + 1) (s_end m f at) d nothing s
      >>= λ w. arms_onward L m done f false (s_end m f at) hi b (next_arm m f at body b d w.outcome) (joined out w.outcome) w.state)
  unfolding statements_onward arms_onward statements_go
  step_arms body at hi b d out s x lt =
      let h = here m f at hi x lt in
      enough_arms (hi - at) (suc (hi - at)) body at hi b d out s x (omega arith) (omega arith)
      ∙ rw (lt-ltb at hi lt, arms_go)
      (ap (λ v. v >>= λ w. arms_go (hi - at) L m done f false (s_end m f at) hi b (next_arm m f at body b d w.outcome) (joined out w.outcome) w.state)
      (enough (hi - at) (s_end m f at - (at + 1)) (at + 1) (s_end m f at) d nothing s h.inner (omega arith) (omega arith))
      ∙ bind_same (statements_onward L m done f (at + 1) (s_end m f at) d nothing s)
      (λ w. enough_arms (hi - at) (hi - s_end m f at) false (s_end m f at) hi b _ _ w.state h.rest (omega arith) (omega arith)))
