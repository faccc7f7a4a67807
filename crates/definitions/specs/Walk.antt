-- 01, 5: statements, the disruptor, and the walk.
use Rattle.std.specs.Prelude.{ℕ, zero, suc, ◌+◌, ◌-◌, List, [], ◌∷◌, ◌++◌, Bool, true, false, cond, ◌&&◌, ◌||◌, not, ltb, eqb}
use Rattle.definitions.specs.Bytes.{range}
use Rattle.definitions.specs.Limits.{Limits}
use Rattle.definitions.specs.Module.{flag, statements, s_kind, s_sub, s_number, s_end, s_first, s_count, s_operand}
use Rattle.definitions.specs.Codes.{BARRIER, COOPERATIVE, join, meets}
use Rattle.definitions.specs.Checks.{Refusal, refusal, Checked, refused, fine, ◌>>=◌, each}
use Rattle.definitions.specs.Origin.{Origin, nowhere, from_expression, or_else}
use Rattle.definitions.specs.Pairs.{Lists, take_pairs}
use Rattle.definitions.specs.State.{State, known_of, s_operands_of, refer_all}
use Rattle.definitions.specs.Summary.{Section, Summary, summary_of}

-- 5.1 the disruptor says what has made control flow non-uniform: nothing, an expression (by its number), Return or Discard
pub data Disruptor : Type 0 where
  undisrupted : Disruptor
  by_expression : ℕ → Disruptor
  by_return by_discard : Disruptor

unfoldable pub disrupted : Disruptor → Bool
disrupted undisrupted = false
disrupted (by_expression e) = true
disrupted by_return = true
disrupted by_discard = true

-- the current one or, where there is none, another
unfoldable pub or_then : Disruptor → Disruptor → Disruptor
or_then undisrupted d = d
or_then (by_expression e) d = by_expression e
or_then by_return d = by_return
or_then by_discard d = by_discard

unfoldable pub disruptor_of : Origin → Disruptor
disruptor_of nowhere = undisrupted
disruptor_of (from_expression e) = by_expression e

-- 5.1 Each statement gives an outcome: an origin (or none), requirements, may-return and may-kill
pub record Outcome : Type 0 where
  pub origin : Origin
  pub requirements : ℕ
  pub may_return : Bool
  pub may_kill : Bool

unfoldable pub nothing : Outcome
nothing = record { origin = nowhere; requirements = 0; may_return = false; may_kill = false }

unfoldable pub requiring : ℕ → Outcome
requiring r = record { origin = nowhere; requirements = r; may_return = false; may_kill = false }

-- 5.7 Outcomes join in table order: the first origin that there is, the union of the rest
unfoldable pub joined : Outcome → Outcome → Outcome
joined a b = record {
  origin = or_else a.origin b.origin;
  requirements = join a.requirements b.requirements;
  may_return = a.may_return || b.may_return;
  may_kill = a.may_kill || b.may_kill;
}

-- 5.6 The exit of an outcome is Return if it may return, else Discard if it may kill, else nothing
unfoldable pub exit : Outcome → Disruptor
exit o = cond o.may_return by_return (cond o.may_kill by_discard undisrupted)

-- 8.1 Cause is 0 none, or for 11: 1 an expression, with its number, 2 Return, 3 Discard
unfoldable pub non_uniform : ℕ → ℕ → Disruptor → Refusal
non_uniform f e undisrupted = refusal 11 f e
non_uniform f e (by_expression x) = record { number = 11; function = f; place = e; cause = 1; cause_number = x }
non_uniform f e by_return = record { number = 11; function = f; place = e; cause = 2; cause_number = 0 }
non_uniform f e by_discard = record { number = 11; function = f; place = e; cause = 3; cause_number = 0 }

-- 5.3 the flag is set, there is a disruptor, and the expression has the barrier or the cooperative requirement
unfoldable pub stopped : List ℕ → ℕ → Disruptor → State → ℕ → Bool
stopped m f d s e = eqb (flag m f) 1 && disrupted d && meets (known_of s e).requirements (join BARRIER COOPERATIVE)

-- 5.2 Emit: requirements of the expressions from `number` up to, without, `first`, joined. 5.3 the first that is stopped is refusal 11
-- (f, that expression), with the disruptor as its cause
unfoldable pub emit_one : List ℕ → ℕ → Disruptor → State → ℕ → ℕ → Checked ℕ
emit_one m f d s e r =
    cond (stopped m f d s e) (refused (non_uniform f e d)) (fine (join r (known_of s e).requirements))

unfoldable pub emitted : List ℕ → ℕ → ℕ → Disruptor → State → Checked ℕ
emitted m f t d s = each (emit_one m f d s) (range (s_number m f t) (s_first m f t - s_number m f t)) 0

-- the origin of a statement's operand, if it has one: Return's, and the condition of an If or a Switch
unfoldable pub operand_origin : List ℕ → ℕ → ℕ → State → Origin
operand_origin m f t s = cond (eqb (s_count m f t) 0) nowhere (known_of s (s_operand m f t 0)).origin

-- 5.2 What a statement gives by itself, without what it holds
unfoldable pub own_outcome : List ℕ → List Section → ℕ → ℕ → Disruptor → State → Checked Outcome
own_outcome m done f t d s =
    let k = s_kind m f t in
    let callee = summary_of done (s_number m f t) in
    -- 0 Emit: requirements of the expressions of its range
    cond (eqb k 0) (emitted m f t d s >>= λ r. fine (requiring r))
    -- 2 Kill: may kill, if there is a disruptor
    (cond (eqb k 2) (fine (record { origin = nowhere; requirements = 0; may_return = false; may_kill = disrupted d }))
    -- 3 Barrier: barrier requirement
    (cond (eqb k 3) (fine (requiring BARRIER))
    -- 4 Return: the operand's origin; may return, if there is a disruptor
    (cond (eqb k 4) (fine (record { origin = operand_origin m f t s; requirements = 0; may_return = disrupted d; may_kill = false }))
    -- 6 Call: origin, requirements and may-kill of the callee's summary
    (cond (eqb k 6) (fine (record { origin = callee.origin; requirements = callee.requirements; may_return = false; may_kill = callee.may_kill }))
    -- 1, 5 and 7 to 11: nothing by themselves
    (fine nothing)))))

-- 5.2 Call: the callee's uses are joined to the caller's; its lists are taken (4.6)
unfoldable pub join_uses : List ℕ → List ℕ → List ℕ
join_uses [] ys = []
join_uses (x ∷ xs) [] = x ∷ xs
join_uses (x ∷ xs) (y ∷ ys) = join x y ∷ join_uses xs ys

unfoldable pub called : Summary → State → Lists → State
called callee s l = record { known = s.known; counts = s.counts; uses = join_uses s.uses callee.uses; lists = l }

unfoldable pub call : Limits → List ℕ → List Section → ℕ → ℕ → State → Checked State
call L m done f t s =
    let callee = summary_of done (s_number m f t) in
    take_pairs L m f t callee.lists s.lists >>= λ l. fine (called callee s l)

-- 5.2 What a statement does by itself: operands count and mark as in 3.2 and 3.3; in a Call they count before the callee's lists are taken
unfoldable pub effect : Limits → List ℕ → List Section → ℕ → ℕ → State → Checked State
effect L m done f t s =
    let s' = refer_all (s_operands_of m f t) s in
    cond (eqb (s_kind m f t) 6) (call L m done f t s') (fine s')

-- what a walk leaves: the state, and the outcome
pub record Walked : Type 0 where
  pub state : State
  pub outcome : Outcome

unfoldable pub own : Limits → List ℕ → List Section → ℕ → ℕ → Disruptor → State → Checked Walked
own L m done f t d s = do
  s' ← effect L m done f t s
  o ← own_outcome m done f t d s'
  fine (record { state = s'; outcome = o })

-- 5.4 Where a walk starts. A Block's start from the current one. The arms of an If or a Switch start from the current one or, where there
-- is none, from the operand's origin. The body of a Loop starts from what the Loop started from, whatever the Loop's operand is
unfoldable pub inside_start : List ℕ → ℕ → ℕ → Disruptor → State → Disruptor
inside_start m f t d s =
    cond (eqb (s_kind m f t) 8 || eqb (s_kind m f t) 9) (or_then d (disruptor_of (operand_origin m f t s))) d

-- 5.5 An arm hands on where it falls through, and where it is the body of a Loop: the arm that stands right after the Loop. Nothing stands
-- before record 0, and 0 - 1 is 0: an Arm there is no Loop
unfoldable pub hands_on : List ℕ → ℕ → ℕ → Bool
hands_on m f t = eqb (s_sub m f t) 1 || eqb (s_kind m f (t - 1)) 10

-- 5.5 After an arm that hands on, the next starts from what this arm started from or, where that is nothing, from its exit. After any other
-- arm the next starts from where the first did, which is where the extent began. 5.6 After each statement of a function, a Block or an arm,
-- a missing disruptor becomes the statement's exit
unfoldable pub next : List ℕ → ℕ → ℕ → Disruptor → Disruptor → Outcome → Disruptor
next m f t begin d o = cond (eqb (s_kind m f t) 11 && not (hands_on m f t)) begin (or_then d (exit o))

-- The walk, over the records from `at` up to, without, `end`, of an extent that began with the disruptor `begin`; d is the current one, out
-- the outcome so far. Each record does what it does by itself, then what it holds is walked as a smaller extent of the same table, then
-- the walk goes on at its end. The first argument bounds the records that are met; the extent's length is enough.
unfoldable pub go : ℕ → Limits → List ℕ → List Section → ℕ → ℕ → ℕ → Disruptor → Disruptor → Outcome → State → Checked Walked
go zero L m done f at end begin d out s = fine (record { state = s; outcome = out })
go (suc n) L m done f at end begin d out s =
    elim (ltb at end) [
      | true ↦
          own L m done f at d s >>= λ a.
          let start = inside_start m f at d a.state in
          go n L m done f (at + 1) (s_end m f at) start start nothing a.state >>= λ b.
          let o = joined a.outcome b.outcome in
          go n L m done f (s_end m f at) end begin (next m f at begin d o) (joined out o) b.state
      | false ↦ fine (record { state = s; outcome = out })
    ]

-- what is left of an extent from `at` on
unfoldable pub onward : Limits → List ℕ → List Section → ℕ → ℕ → ℕ → Disruptor → Disruptor → Outcome → State → Checked Walked
onward L m done f at end begin d out s = go (end - at) L m done f at end begin d out s

-- an extent from its beginning
unfoldable pub walk : Limits → List ℕ → List Section → ℕ → ℕ → ℕ → Disruptor → State → Checked Walked
walk L m done f at end begin s = onward L m done f at end begin begin nothing s

-- 5.4 A function's statements start with no disruptor
unfoldable pub walk_all : Limits → List ℕ → List Section → ℕ → State → Checked Walked
walk_all L m done f s = walk L m done f 0 (statements m f) undisrupted s

-- 5.8 the records of an extent in the order in which the walk meets them: each, then what it holds, then the rest
unfoldable pub visited : ℕ → List ℕ → ℕ → ℕ → ℕ → List ℕ
visited zero m f at end = []
visited (suc n) m f at end =
    elim (ltb at end) [ true ↦ at ∷ (visited n m f (at + 1) (s_end m f at) ++ visited n m f (s_end m f at) end) | false ↦ [] ]
