-- What the walk is asked and what it answers: the memory's view, once all expressions of a function are known.
use Rattle.std.specs.Prelude.{ℕ, ◌+◌, ◌*◌, ◌≤◌, ◌<◌, false, ◌≡◌, List, length, get_or, Result, Ok, Err}
use Rattle.definitions.specs.Limits.{version_1}
use Rattle.definitions.specs.Module.{globals, functions, arguments, expressions, s_number}
use Rattle.definitions.specs.Checks.{Checked, fine, refused, ◌>>=◌}
use Rattle.definitions.specs.Report.{records, r_mixed, r_mixed_count, r_mixed_at, r_section_end}
use Rattle.definitions.specs.Ends.{Pair}
use Rattle.definitions.specs.State.{State, refer_all, s_operands_of}
use Rattle.definitions.specs.Summary.{Section, Summary, summary_of}
use Rattle.definitions.specs.Walk as walks
use Rattle.definitions.proofs.Formed.{Formed}
use Rattle.vocabulary.specs.Said.{refusal_said}
use Rattle.vocabulary.specs.declared.refusal.Refusal.{Refusal}
use Rattle.module.specs.Sheets.{ValidSheet, IsStatement}
use Rattle.module.specs.declared.Sheet.{Sheet}
use Rattle.module.specs.declared.Statement.{Statement}
use Rattle.memory.specs.Layout.{size}
use Rattle.memory.specs.View.{Shape, count_at}
use Rattle.memory.specs.Changes.{table, section_at}
use Rattle.rules_pairs.specs.States.{callees, shape_of, state_of}
use Rattle.rules_pairs.specs.Lists.{ValidLists}
use Rattle.rules_pairs.specs.Tracing.{EndBelow}
use Rattle.rules_pairs.specs.declared.lists.Lists.{Lists}
use Rattle.rules_statements.specs.Said.{outcome_said}
use Rattle.rules_statements.specs.declared.Passed.{Passed}
use Rattle.rules_statements.specs.declared.uniformity.FunctionUniformity.{FunctionUniformity}

-- how much of the memory is in use once all expressions of f are known, and the state that it then stands for
abbrev pub known_shape : List ℕ → ℕ → Lists → Shape
known_shape m f l = shape_of m f (expressions m f) l

abbrev pub known_state : List ℕ → ℕ → Lists → List ℕ → State
known_state m f l w = state_of m f (expressions m f) l w

-- every count of f is at most k
unfoldable pub CountsBelow : List ℕ → ℕ → List ℕ → ℕ → Type 0
CountsBelow m f w k = (x : ℕ) → get_or (records count_at 9 w 0 (expressions m f)) x 0 ≤ k

-- the counts before statement t: each record so far has at most 8,192 operands, and there are 2,048 expressions and 512 initialisers
unfoldable pub bound : ℕ → ℕ
bound t = 16777728 + 8192 * t

-- the sheet s of a module whose form has passed
pub record WalkContext (m : List ℕ) (s : Sheet) : Type 0 where
  pub stands : ValidSheet m s
  pub formed : Formed version_1 m
  pub present : s.function < functions m

-- statement t of it
pub record StatementAt (m : List ℕ) (s : Sheet) (t : ℕ) (x : Statement) : Type 0 where
  pub there : t < s.statements
  pub is : IsStatement m s.function t x

-- both ends of a pair are globals, or arguments below n
pub record EndsBelow (n : ℕ) (p : Pair) : Type 0 where
  pub image : EndBelow n p.image
  pub sampler : EndBelow n p.sampler

-- the section of function g, which stands at `at`: it can be read, and its mixed pairs speak of g's arguments
pub record ValidSection (m report : List ℕ) (g at : ℕ) : Type 0 where
  pub within : r_section_end (globals m) report at ≤ length report
  pub mixed : (i : ℕ) → i < r_mixed_count report at → EndsBelow (arguments m g) (r_mixed report (r_mixed_at (globals m) report at + 6 * i))

-- what is known before statement t of the function whose sheet is s
pub record ValidWalk (m : List ℕ) (s : Sheet) (report w : List ℕ) (l : Lists) (t : ℕ) : Type 0 where
  pub held : WalkContext m s
  pub settled : (g : ℕ) → g < s.function → ValidSection m report g (section_at (table w) g)
  pub low : CountsBelow m s.function w (bound t)
  pub stand : ValidLists w l

-- what a statement gives by itself
abbrev pub told_said : Result FunctionUniformity Refusal → Checked walks.Outcome
told_said (Ok o) = fine (outcome_said o)
told_said (Err r) = refused (refusal_said r)

-- 5.2 Emit's outcome, or the refusal
unfoldable pub emit_outcome : List ℕ → ℕ → ℕ → walks.Disruptor → State → Checked walks.Outcome
emit_outcome m f t d s = walks.emitted m f t d s >>= λ r. fine (walks.requiring r)

-- 5.2 Call: origin, requirements and may-kill of the callee's summary
unfoldable pub call_outcome : Summary → walks.Outcome
call_outcome y = record { origin = y.origin; requirements = y.requirements; may_return = false; may_kill = y.may_kill }

-- 5.2 a Call, once its operands have counted
unfoldable pub call_walked : List ℕ → List Section → ℕ → ℕ → State → Checked walks.Walked
call_walked m done f t s =
    walks.call version_1 m done f t s >>= λ s'. fine (record { state = s'; outcome = call_outcome (summary_of done (s_number m f t)) })

-- what an answer says: the state that is left, and the outcome; or the refusal
abbrev pub walked_said : List ℕ → ℕ → List ℕ → Result Passed Refusal → Checked walks.Walked
walked_said m f w (Ok p) = fine (record { state = known_state m f p.lists w; outcome = outcome_said p.outcome })
walked_said m f w (Err r) = refused (refusal_said r)

-- where nothing was refused the lists stand again
abbrev pub ValidListsAfter : List ℕ → Result Passed Refusal → Type 0
ValidListsAfter w (Ok p) = ValidLists w p.lists
ValidListsAfter w (Err r) = Unit {0}

-- and the walk can go on before statement t
abbrev pub ValidWalkAfter : List ℕ → Sheet → List ℕ → List ℕ → ℕ → Result Passed Refusal → Type 0
ValidWalkAfter m s report w t (Ok p) = ValidWalk m s report w p.lists t
ValidWalkAfter m s report w t (Err r) = Unit {0}

-- the answer r, with w before and w' after, is what `answer` says, and the walk can go on before statement t
pub record WalkResult (m : List ℕ) (s : Sheet) (report w w' : List ℕ) (t : ℕ) (r : Result Passed Refusal) (answer : Checked walks.Walked) : Type 0 where
  pub says : walked_said m s.function w' r ≡ answer
  pub on : ValidWalkAfter m s report w' t r
  pub kept : table w' ≡ table w

-- the operands of statement t have counted and marked
pub record OperandsResult (m : List ℕ) (s : Sheet) (t : ℕ) (w w' : List ℕ) : Type 0 where
  pub is : (l : Lists) → l.pairs ≤ version_1.pairs → l.mixed ≤ version_1.pairs → known_state m s.function l w' ≡ refer_all (s_operands_of m s.function t) (known_state m s.function l w)
  pub long : length w' ≡ size
  pub kept : table w' ≡ table w

-- a Call's own part, after its operands
pub record CallResult (m : List ℕ) (s : Sheet) (report w w' : List ℕ) (t : ℕ) (r : Result Passed Refusal) (l : Lists) : Type 0 where
  pub says : walked_said m s.function w' r ≡ call_walked m (callees m s.function report w) s.function t (known_state m s.function l w)
  pub stand : ValidListsAfter w' r
  pub kept : table w' ≡ table w
