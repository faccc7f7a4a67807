-- What the steps of a function ask and promise (01, 6.1). The state is what is `known_state` in the working memory, the functions before it are its
-- `callees`.
use Rattle.std.specs.Prelude.{ℕ, ◌<◌, List, ◌≡◌, length, Result}
use Rattle.definitions.specs.Bytes.{range}
use Rattle.definitions.specs.Limits.{version_1}
use Rattle.definitions.specs.Module.{initialisers, named}
use Rattle.definitions.specs.Checks.{Checked, fine, ◌>>=◌, through}
use Rattle.definitions.specs.State.{State}
use Rattle.definitions.specs.Summary.{Section}
use Rattle.definitions.specs.Walk as walks
use Rattle.definitions.specs.Analyse.{initialise, name, function_run}
use Rattle.definitions.proofs.Bounds.{CountsWithin}
use Rattle.memory.specs.Layout.{size}
use Rattle.memory.specs.Changes.{table, section_at}
use Rattle.module.specs.declared.Sheet.{Sheet}
use Rattle.rules_pairs.specs.Lists.{ValidLists}
use Rattle.rules_pairs.specs.declared.lists.Lists.{Lists}
use Rattle.rules_statements.specs.declared.Passed.{Passed}
use Rattle.vocabulary.specs.declared.refusal.Refusal.{Refusal}
use Rattle.rules_statements.specs.Said.{outcome_said}
use Rattle.rules_pairs.specs.States.{callees}
use Rattle.rules_statements.specs.Results.{known_state, WalkContext, ValidSection, walked_said, ValidListsAfter}

-- a function's analysis begins: the sections of all functions before it can be read
pub record ValidStart (m : List ℕ) (s : Sheet) (report work : List ℕ) : Type 0 where
  pub held : WalkContext m s
  pub long : length work ≡ size
  pub settled : (g : ℕ) → g < s.function → ValidSection m report g (section_at (table work) g)

-- an answer, with w before and w' after, says what `answer` does
pub record FunctionResult (m : List ℕ) (s : Sheet) (w w' : List ℕ) (r : Result Passed Refusal) (answer : Checked walks.Walked) : Type 0 where
  pub says : walked_said m s.function w' r ≡ answer
  pub stand : ValidListsAfter w' r
  pub long : length w' ≡ size
  pub kept : table w' ≡ table w

-- all steps of a function
abbrev pub AnalysisResult : List ℕ → Sheet → List ℕ → List ℕ → List ℕ → Result Passed Refusal → Type 0
AnalysisResult m s report w w' r = FunctionResult m s w w' r (function_run version_1 m (callees m s.function report w) s.function)

-- all its expressions are known, and its lists are l: a record has at most 8,192 operands, and there are at most 2,048 expressions
pub record ValidExpressions (m : List ℕ) (s : Sheet) (report w : List ℕ) (l : Lists) : Type 0 where
  pub begins : ValidStart m s report w
  pub stand : ValidLists w l
  pub low : CountsWithin 16777216 (known_state m s.function l w)

-- 6.1 then its initialisers, its statements, and its named expressions
unfoldable pub after_expressions : List ℕ → List Section → ℕ → State → Checked walks.Walked
after_expressions m done f s = do
  w ← walks.walk_all version_1 m done f (through (initialise m f) (range 0 (initialisers m f)) s)
  fine (record { state = through (name m f) (range 0 (named m f)) w.state; outcome = w.outcome })

-- the run of the function whose sheet is s has come to p, with the memory w
pub record FunctionRun (m : List ℕ) (s : Sheet) (report w : List ℕ) (p : Passed) : Type 0 where
  pub ran : function_run version_1 m (callees m s.function report w) s.function
      ≡ fine (record { state = known_state m s.function p.lists w; outcome = outcome_said p.outcome })
  pub stand : ValidLists w p.lists
