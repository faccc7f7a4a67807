-- The steps of an expression and of all of them: what is asked before one, and what it leaves.
use Rattle.std.specs.Prelude.{ℕ, ◌+◌, ◌*◌, ◌<◌, ◌≡◌, List, Result, Ok, Err}
use Rattle.definitions.specs.Bytes.{be16, range}
use Rattle.definitions.specs.Limits.{version_1}
use Rattle.definitions.specs.Module.{expressions, initialiser, named_at}
use Rattle.definitions.specs.Checks.{Checked, fine, refused, ◌>>=◌, each}
use Rattle.definitions.specs.Pairs as paper
use Rattle.definitions.specs.Roles.{R}
use Rattle.definitions.specs.State.{State, start, operands_of, carried}
use Rattle.definitions.specs.Summary.{Section}
use Rattle.definitions.specs.Expressions.{own_global, sampled, with_expression, expression_step}
use Rattle.definitions.proofs.Bounds.{CountsWithin}
use Rattle.vocabulary.specs.Said.{refusal_said}
use Rattle.module.specs.declared.Sheet.{Sheet}
use Rattle.module.specs.declared.Expression.{Expression}
use Rattle.memory.specs.View.{count_at}
use Rattle.memory.specs.Changes.{table, refer_line, with_query}
use Rattle.rules_pairs.specs.declared.lists.Lists.{Lists}
use Rattle.vocabulary.specs.declared.refusal.Refusal.{Refusal}
use Rattle.rules_pairs.specs.Lists.{ValidLists, ValidListsAfter}
use Rattle.rules_pairs.specs.States.{state_of}
use Rattle.rules_expressions.specs.Facts.{FormedSheet, ValidSections}
use Rattle.rules_expressions.specs.Operands.{ValidOperands}

-- what an answer says, where e expressions are known after it
abbrev pub state_said : List ℕ → ℕ → ℕ → List ℕ → Result Lists Refusal → Checked State
state_said m f e w (Ok l) = fine (state_of m f e l w)
state_said m f e w (Err r) = refused (refusal_said r)

-- what the carried global and the line of e make of the state s, once its lists are l
unfoldable pub completed : List ℕ → List Section → ℕ → ℕ → State → paper.Lists → Checked State
completed m done f e s l = fine (with_expression m done f e l (carried (operands_of m f e) s (own_global m f e)) s)

-- what its sampling makes of it before that
unfoldable pub sampled_then_completed : List ℕ → List Section → ℕ → ℕ → State → Checked State
sampled_then_completed m done f e s = sampled version_1 m f e s.lists >>= λ l. completed m done f e s l

-- an expression that is to be processed, and the lists before it
pub record ValidExpression (m : List ℕ) (s : Sheet) (w : List ℕ) (x : Expression) (l : Lists) : Type 0 where
  pub operands : ValidOperands m s w x
  pub lists : ValidLists w l

-- the answer r to e, with w before and w' after, is what `answer` says
pub record ExpressionResult (m : List ℕ) (f : ℕ) (w w' : List ℕ) (e : ℕ) (r : Result Lists Refusal) (answer : Checked State) : Type 0 where
  pub says : state_said m f (e + 1) w' r ≡ answer
  pub lists : ValidListsAfter r w'
  pub kept : table w' ≡ table w

-- what is asked before expression e: each record so far has at most 8,192 operands
pub record ValidState (m : List ℕ) (s : Sheet) (report w : List ℕ) (e : ℕ) (l : Lists) : Type 0 where
  pub sheet : FormedSheet m s
  pub sections : ValidSections report (table w) s.function
  pub lists : ValidLists w l
  pub low : CountsWithin (8192 * e) (state_of m s.function e l w)

abbrev pub ValidStateAfter : List ℕ → Sheet → List ℕ → List ℕ → ℕ → Result Lists Refusal → Type 0
ValidStateAfter m s report w e (Ok l) = ValidState m s report w e l
ValidStateAfter m s report w e (Err r) = Unit {0}

-- the answer of one expression, or of all, and that the next can be processed
pub record StepResult (m : List ℕ) (s : Sheet) (report w w' : List ℕ) (e : ℕ) (r : Result Lists Refusal) (answer : Checked State) : Type 0 where
  pub says : state_said m s.function e w' r ≡ answer
  pub on : ValidStateAfter m s report w' e r
  pub kept : table w' ≡ table w

-- 6.1 all expressions of f, from the start on
unfoldable pub all_expressions : List ℕ → ℕ → List Section → Checked State
all_expressions m f done = each (expression_step version_1 m done f) (range 0 (expressions m f)) (start m f)

-- 6.1 the initialisers, each an operand that reads, and the named expressions
unfoldable pub initialise_line : List ℕ → ℕ → ℕ → List ℕ → List ℕ
initialise_line m f i w = refer_line (record { does = R; target = initialiser m f i }) w

unfoldable pub name_line : List ℕ → ℕ → ℕ → List ℕ → List ℕ
name_line m f i w = with_query w (be16 w (9 * named_at m f i + 7))

-- initialisers that can be referred to
pub record ValidInitialisers (m : List ℕ) (s : Sheet) (w : List ℕ) : Type 0 where
  pub sheet : FormedSheet m s
  pub room : (y : ℕ) → y < s.expressions → count_at w (9 * y) + s.initialisers < 4294967296
