-- 01, 5.2 to 5.6 once more, kind by kind as the document tells it: the statements of a function, a Block or an arm, and the arms of an If, a
-- Switch or a Loop. The walk of Walk.antt is shown to be this.
use Rattle.std.specs.Prelude.{ℕ, zero, suc, ◌+◌, ◌-◌, List, Bool, true, false, cond, ◌||◌, ltb, eqb}
use Rattle.definitions.specs.Limits.{Limits}
use Rattle.definitions.specs.Module.{statements, s_kind, s_sub, s_end}
use Rattle.definitions.specs.Checks.{Checked, fine, ◌>>=◌}
use Rattle.definitions.specs.Form.{holds_arms}
use Rattle.definitions.specs.State.{State}
use Rattle.definitions.specs.Summary.{Section}
use Rattle.definitions.specs.Walk.{Disruptor, undisrupted, or_then, Outcome, nothing, joined, exit, Walked, effect, own, inside_start}

-- 5.5 An arm hands on where it falls through, and where it is the body of a Loop. After an arm that hands on, the next starts from what this
-- arm started from or, where that is nothing, from its exit. After any other arm the next starts from where the first did
unfoldable pub next_arm : List ℕ → ℕ → ℕ → Bool → Disruptor → Disruptor → Outcome → Disruptor
next_arm m f t body first d o = cond (eqb (s_sub m f t) 1 || body) (or_then d (exit o)) first

-- a Block gives what its inside gives; an If, a Switch or a Loop what its arms give; any other statement does all by itself
unfoldable pub by_kind : Limits → List ℕ → List Section → ℕ → ℕ → Disruptor → State → Checked Walked → (State → Checked Walked) → Checked Walked
by_kind L m done f t d s block arms =
    cond (eqb (s_kind m f t) 7) block
    (cond (holds_arms (s_kind m f t)) (effect L m done f t s >>= λ s'. arms s')
    (own L m done f t d s))

unfoldable mutual
  -- 5.6 the statements from `at` up to, without, `end`: after each a missing disruptor becomes the statement's exit
  pub statements_go : ℕ → Limits → List ℕ → List Section → ℕ → ℕ → ℕ → Disruptor → Outcome → State → Checked Walked
  statements_go zero L m done f at end d out s = fine (record { state = s; outcome = out })
  statements_go (suc n) L m done f at end d out s =
      elim (ltb at end) [
        | true ↦
            by_kind L m done f at d s
            (statements_go n L m done f (at + 1) (s_end m f at) d nothing s)
            (λ s'. arms_go n L m done f (eqb (s_kind m f at) 10) (at + 1) (s_end m f at) (inside_start m f at d s') (inside_start m f at d s') nothing s')
            >>= λ w. statements_go n L m done f (s_end m f at) end (or_then d (exit w.outcome)) (joined out w.outcome) w.state
        | false ↦ fine (record { state = s; outcome = out })
      ]

  -- 5.4, 5.5 the arms from `at` up to, without, `end`, of which the first started from `first`; `body` says that the one at `at` is a Loop's
  -- body, which is the first of its two arms
  pub arms_go : ℕ → Limits → List ℕ → List Section → ℕ → Bool → ℕ → ℕ → Disruptor → Disruptor → Outcome → State → Checked Walked
  arms_go zero L m done f body at end first d out s = fine (record { state = s; outcome = out })
  arms_go (suc n) L m done f body at end first d out s =
      elim (ltb at end) [
        | true ↦
            statements_go n L m done f (at + 1) (s_end m f at) d nothing s
            >>= λ w. arms_go n L m done f false (s_end m f at) end first (next_arm m f at body first d w.outcome) (joined out w.outcome) w.state
        | false ↦ fine (record { state = s; outcome = out })
      ]

unfoldable pub statements_onward : Limits → List ℕ → List Section → ℕ → ℕ → ℕ → Disruptor → Outcome → State → Checked Walked
statements_onward L m done f at end d out s = statements_go (end - at) L m done f at end d out s

unfoldable pub arms_onward : Limits → List ℕ → List Section → ℕ → Bool → ℕ → ℕ → Disruptor → Disruptor → Outcome → State → Checked Walked
arms_onward L m done f body at end first d out s = arms_go (end - at) L m done f body at end first d out s

-- 5.4 A function's statements start with no disruptor
unfoldable pub walk_by_kinds : Limits → List ℕ → List Section → ℕ → State → Checked Walked
walk_by_kinds L m done f s = statements_onward L m done f 0 (statements m f) undisrupted nothing s
