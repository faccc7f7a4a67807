-- The walk's loop: what is left from `at` on gives the answer of the whole. Each law is one way through the loop's body.
use Prim.Native.Nat.{ℕ, ◌+◌, ◌≤◌, ◌<◌}
use native.Mathlib.Omega.{arith}
use mathlib.Core.Path.{◌≡◌, refl, sym, ap, ◌∙◌, subst}
use mathlib.Core.List.{List}
use mathlib.Core.Bool.{Bool, true, false, ◌||◌}
use lib.Bits.{or_zero_r}
use Rattle.std.specs.Prelude.{Result, Ok, Err, Option}
use Rattle.definitions.specs.Codes as codes
use Rattle.definitions.specs.Origin.{Origin, nowhere, from_expression, or_else}
use Rattle.definitions.specs.Limits.{version_1}
use Rattle.definitions.specs.Module.{globals, s_end}
use Rattle.definitions.specs.Checks.{fine, ◌>>=◌}
use Rattle.definitions.specs.State.{State}
use Rattle.definitions.specs.Summary.{Section}
use Rattle.definitions.specs.Walk as walks
use Rattle.definitions.proofs.Extents.{Extent, here, walk_done, walk_step}
use Rattle.vocabulary.specs.Said.{disruptor_said}
use Rattle.vocabulary.specs.declared.disruptor.UniformityDisruptor.{UniformityDisruptor}
use Rattle.vocabulary.specs.declared.refusal.Refusal.{Refusal}
use Rattle.module.specs.Sheets.{IsStatement}
use Rattle.module.proofs.Places.{bounds, statement_itself}
use Rattle.module.specs.declared.Sheet.{Sheet}
use Rattle.module.specs.declared.Statement.{Statement}
use Rattle.memory.specs.Changes.{table, told}
use Rattle.rules_statements.specs.Said.{outcome_said}
use Rattle.rules_pairs.specs.States.{callees}
use Rattle.rules_statements.specs.Results.{known_state, StatementAt, ValidWalk, WalkResult, walked_said}
use Rattle.rules_statements.specs.declared.uniformity.FunctionUniformity.{FunctionUniformity}
use Rattle.rules_pairs.specs.declared.lists.Lists.{Lists}
use Rattle.rules_statements.specs.declared.Passed.{Passed}

-- the callees' sections do not depend on what a walk may change
pub callees_kept : (m : List ℕ) (f : ℕ) (report w w' : List ℕ) → table w' ≡ table w → callees m f report w' ≡ callees m f report w
unfolding callees
callees_kept m f report w w' e = ap (λ t. told (globals m) report t f) e

-- the walk so far
pub record WalkLoop (m : List ℕ) (s : Sheet) (report w₀ : List ℕ) (lo hi : ℕ) (start : Option UniformityDisruptor) (l₀ : Lists)
    (w : List ℕ) (at : ℕ) (d : Option UniformityDisruptor) (l : Lists) (out : FunctionUniformity) : Type 0 where
  pub lower : lo ≤ at
  pub upper : at ≤ hi
  pub ext : Extent m s.function at hi
  pub ready : ValidWalk m s report w l at
  pub kept : table w ≡ table w₀
  pub same :
      walks.walk version_1 m (callees m s.function report w₀) s.function lo hi (disruptor_said start) (known_state m s.function l₀ w₀)
      ≡ walks.onward version_1 m (callees m s.function report w₀) s.function at hi (disruptor_said start) (disruptor_said d) (outcome_said out) (known_state m s.function l w)

pub begins : {m : List ℕ} {s : Sheet} {report w₀ : List ℕ} {lo hi : ℕ} (start : Option UniformityDisruptor) {l₀ : Lists} {out : FunctionUniformity}
    → ValidWalk m s report w₀ l₀ lo → Extent m s.function lo hi → lo ≤ hi → outcome_said out ≡ walks.nothing
    → WalkLoop m s report w₀ lo hi start l₀ w₀ lo start l₀ out
unfolding walks.walk
begins start r x h q = record { lower = omega arith; upper = h; ext = x; ready = r; kept = refl; same = rw q }

-- 5.7 nothing joins as nothing
pub or_else_nowhere : (o : Origin) → or_else o nowhere ≡ o
unfolding or_else
or_else_nowhere nowhere = refl
or_else_nowhere (from_expression e) = refl

pub or_false : (b : Bool) → (b || false) ≡ b
or_false true = refl
or_false false = refl

pub joined_nothing : (o : walks.Outcome) → walks.joined o walks.nothing ≡ o
unfolding walks.joined walks.nothing codes.join
joined_nothing o = rw (or_else_nowhere o.origin, or_zero_r o.requirements, or_false o.may_return, or_false o.may_kill)

-- 5.4 an extent with nothing in it
pub empty_walk : (m : List ℕ) (done : List Section) (f at hi : ℕ) (d : walks.Disruptor) (s : State) → hi ≤ at
    → walks.walk version_1 m done f at hi d s ≡ fine (record { state = s; outcome = walks.nothing })
unfolding walks.walk
empty_walk m done f at hi d s h = walk_done version_1 m done f at hi d d walks.nothing s h

-- what is known of the statement at `at`
pub record StatementBounds (m : List ℕ) (s : Sheet) (lo at hi : ℕ) : Type 0 where
  pub there : at < s.statements
  pub few : s.statements ≤ 1024
  pub after : at < s_end m s.function at
  pub within : s_end m s.function at ≤ hi
  pub inner : Extent m s.function (at + 1) (s_end m s.function at)
  pub rest : Extent m s.function (s_end m s.function at) hi

-- the statement at `at` is done, with all that it holds: p is what the two come to, w' the memory that they leave
pub record StatementDone (m : List ℕ) (s : Sheet) (report w₀ : List ℕ) (lo hi : ℕ) (start : Option UniformityDisruptor) (l₀ : Lists)
    (at : ℕ) (d : Option UniformityDisruptor) (out : FunctionUniformity) (w' : List ℕ) (end : ℕ) (p : Passed) : Type 0 where
  pub ready : ValidWalk m s report w' p.lists end
  pub kept : table w' ≡ table w₀
  pub same :
      walks.walk version_1 m (callees m s.function report w₀) s.function lo hi (disruptor_said start) (known_state m s.function l₀ w₀)
      ≡ walks.onward version_1 m (callees m s.function report w₀) s.function end hi (disruptor_said start)
      (walks.next m s.function at (disruptor_said start) (disruptor_said d) (outcome_said p.outcome))
      (walks.joined (outcome_said out) (outcome_said p.outcome)) (known_state m s.function p.lists w')

module _ {m : List ℕ} {s : Sheet} {report w₀ : List ℕ} {lo hi : ℕ} {start : Option UniformityDisruptor} {l₀ : Lists} {w : List ℕ} {at : ℕ} {d : Option UniformityDisruptor} {l : Lists} {out : FunctionUniformity}
    (v : WalkLoop m s report w₀ lo hi start l₀ w at d l out) where
  pub standing : at < hi → StatementBounds m s lo at hi
  standing lt =
      let h = here m s.function at hi v.ext lt in
      let n = v.ext.in_table in
      let b = bounds m s v.ready.held.stands in
      let e = b.laid.statements_are in
      let k = b.few_statements in
      record { there = omega arith; few = k; after = h.after; within = h.within; inner = h.inner; rest = h.rest }

  pub statement_here : at < hi → {x : Statement} → IsStatement m s.function at x → StatementAt m s at x
  statement_here lt is = record { there = (standing lt).there; is = is }

  -- the same, by the number that it carries
  pub statement_carried : at < hi → {x : Statement} → IsStatement m s.function at x → StatementAt m s x.index x
  statement_carried lt is = let e = is.index_is in let h = (standing lt).there in record { there = omega arith; is = statement_itself is }

  pub ready_carried : {x : Statement} → IsStatement m s.function at x → ValidWalk m s report w l x.index
  ready_carried {x} is = subst (λ t. ValidWalk m s report w l t) (sym is.index_is) v.ready

  -- the answer of the whole, once the statement's own is known
  after_own : (lt : at < hi) {w₁ : List ℕ} {a : Result Passed Refusal}
      → WalkResult m s report w w₁ (at + 1) a (walks.own version_1 m (callees m s.function report w) s.function at (disruptor_said d) (known_state m s.function l w))
      → walks.walk version_1 m (callees m s.function report w₀) s.function lo hi (disruptor_said start) (known_state m s.function l₀ w₀)
      ≡ (walked_said m s.function w₁ a >>= λ u.
      (walks.walk version_1 m (callees m s.function report w₀) s.function (at + 1) (s_end m s.function at) (walks.inside_start m s.function at (disruptor_said d) u.state) u.state >>= λ y.
      walks.onward version_1 m (callees m s.function report w₀) s.function (s_end m s.function at) hi (disruptor_said start)
      (walks.next m s.function at (disruptor_said start) (disruptor_said d) (walks.joined u.outcome y.outcome))
      (walks.joined (outcome_said out) (walks.joined u.outcome y.outcome)) y.state))
  after_own lt {w₁} {a} own =
      let c : callees m s.function report w ≡ callees m s.function report w₀ = callees_kept m s.function report w₀ w v.kept in
      v.same
      ∙ walk_step version_1 m (callees m s.function report w₀) s.function at hi (disruptor_said start) (disruptor_said d) (outcome_said out) (known_state m s.function l w) v.ext lt
      ∙ rw (own.says, c)

  -- a refusal by the statement itself
  pub own_refuses : at < hi → {w₁ : List ℕ} {r : Refusal}
      → WalkResult m s report w w₁ (at + 1) (Err r) (walks.own version_1 m (callees m s.function report w) s.function at (disruptor_said d) (known_state m s.function l w))
      → WalkResult m s report w₀ w₁ hi (Err r) (walks.walk version_1 m (callees m s.function report w₀) s.function lo hi (disruptor_said start) (known_state m s.function l₀ w₀))
  unfolding ◌>>=◌
  own_refuses lt own = record { says = sym (after_own lt own); on = tt; kept = own.kept ∙ v.kept }

  -- a statement that holds nothing: there is no inside to walk
  pub bare : at < hi → {w₁ : List ℕ} {p : Passed} {x : Statement}
      → IsStatement m s.function at x → x.end ≤ at + 1
      → WalkResult m s report w w₁ (at + 1) (Ok p) (walks.own version_1 m (callees m s.function report w) s.function at (disruptor_said d) (known_state m s.function l w))
      → StatementDone m s report w₀ lo hi start l₀ at d out w₁ x.end p
  unfolding ◌>>=◌
  bare lt {w₁} {p} {x} is short own =
      let k = is.end_is in
      let f = (standing lt).after in
      let last : s_end m s.function at ≡ at + 1 = omega arith in
      record {
        ready = subst (λ t. ValidWalk m s report w₁ p.lists t) (sym last ∙ sym k) own.on;
        kept = own.kept ∙ v.kept;
        same = after_own lt own
            ∙ rw (empty_walk m (callees m s.function report w₀) s.function (at + 1) (s_end m s.function at) _ _ (omega arith), joined_nothing (outcome_said p.outcome), ← k);
      }

  -- the statement's own part is done, and what it holds is walked
  module _ (lt : at < hi) {w₁ : List ℕ} {p : Passed} {x : Statement} (i : Option UniformityDisruptor) (is : IsStatement m s.function at x)
      (own : WalkResult m s report w w₁ (at + 1) (Ok p) (walks.own version_1 m (callees m s.function report w) s.function at (disruptor_said d) (known_state m s.function l w)))
      (into : disruptor_said i ≡ walks.inside_start m s.function x.index (disruptor_said d) (known_state m s.function p.lists w₁)) where
    after_inner : {w₂ : List ℕ} {b : Result Passed Refusal}
        → WalkResult m s report w₁ w₂ x.end b (walks.walk version_1 m (callees m s.function report w₁) s.function (at + 1) x.end (disruptor_said i) (known_state m s.function p.lists w₁))
        → walks.walk version_1 m (callees m s.function report w₀) s.function lo hi (disruptor_said start) (known_state m s.function l₀ w₀)
        ≡ (walked_said m s.function w₂ b >>= λ y.
        walks.onward version_1 m (callees m s.function report w₀) s.function (s_end m s.function at) hi (disruptor_said start)
        (walks.next m s.function at (disruptor_said start) (disruptor_said d) (walks.joined (outcome_said p.outcome) y.outcome))
        (walks.joined (outcome_said out) (walks.joined (outcome_said p.outcome) y.outcome)) y.state)
    unfolding ◌>>=◌
    after_inner inner =
        let c : callees m s.function report w₁ ≡ callees m s.function report w₀ = callees_kept m s.function report w₀ w₁ (own.kept ∙ v.kept) in
        let from : disruptor_said i ≡ walks.inside_start m s.function at (disruptor_said d) (known_state m s.function p.lists w₁) = rw (← is.index_is) into in
        after_own lt own ∙ rw (← from, ← is.end_is, ← c, ← inner.says)

    pub inner_refuses : {w₂ : List ℕ} {r : Refusal}
        → WalkResult m s report w₁ w₂ x.end (Err r) (walks.walk version_1 m (callees m s.function report w₁) s.function (at + 1) x.end (disruptor_said i) (known_state m s.function p.lists w₁))
        → WalkResult m s report w₀ w₂ hi (Err r) (walks.walk version_1 m (callees m s.function report w₀) s.function lo hi (disruptor_said start) (known_state m s.function l₀ w₀))
    unfolding ◌>>=◌
    inner_refuses inner = record { says = sym (after_inner inner); on = tt; kept = inner.kept ∙ own.kept ∙ v.kept }

    pub walked_in : {w₂ : List ℕ} {q : Passed} (whole : FunctionUniformity)
        → WalkResult m s report w₁ w₂ x.end (Ok q) (walks.walk version_1 m (callees m s.function report w₁) s.function (at + 1) x.end (disruptor_said i) (known_state m s.function p.lists w₁))
        → outcome_said whole ≡ walks.joined (outcome_said p.outcome) (outcome_said q.outcome)
        → StatementDone m s report w₀ lo hi start l₀ at d out w₂ x.end (record { lists = q.lists; outcome = whole })
    unfolding ◌>>=◌
    walked_in whole inner j =
        let k = is.end_is in
        record { ready = inner.on; kept = inner.kept ∙ own.kept ∙ v.kept; same = after_inner inner ∙ rw (← j, ← k) }

  -- either way the walk goes on behind it
  pub goes_on : at < hi → {w' : List ℕ} {p : Passed} {d' : Option UniformityDisruptor} {out' : FunctionUniformity} {x : Statement}
      → IsStatement m s.function at x
      → StatementDone m s report w₀ lo hi start l₀ at d out w' x.end p
      → disruptor_said d' ≡ walks.next m s.function at (disruptor_said start) (disruptor_said d) (outcome_said p.outcome)
      → outcome_said out' ≡ walks.joined (outcome_said out) (outcome_said p.outcome)
      → WalkLoop m s report w₀ lo hi start l₀ w' x.end d' p.lists out'
  goes_on lt is done n o =
      let h = standing lt in
      let k = is.end_is in
      let f = h.after in
      let u = h.within in
      let a = v.lower in
      record { lower = omega arith; upper = omega arith; ext = rw k h.rest; ready = done.ready; kept = done.kept; same = done.same ∙ rw (← n, ← o) }

  pub ends : hi ≤ at → WalkResult m s report w₀ w hi (Ok (record { lists = l; outcome = out })) (walks.walk version_1 m (callees m s.function report w₀) s.function lo hi (disruptor_said start) (known_state m s.function l₀ w₀))
  ends ge =
      let e : at ≡ hi = (let u = v.upper in omega arith) in
      record {
        says = sym (v.same ∙ walk_done version_1 m (callees m s.function report w₀) s.function at hi (disruptor_said start) (disruptor_said d) (outcome_said out) (known_state m s.function l w) ge);
        on = subst (λ t. ValidWalk m s report w l t) e v.ready;
        kept = v.kept;
      }
