-- What working memory stands for while a function is analysed: the state of the definitions, with the lists; and what
-- is known of its callees.
use Rattle.std.specs.Prelude.{ℕ, List}
use Rattle.definitions.specs.Module.{globals, expressions}
use Rattle.definitions.specs.State.{State}
use Rattle.definitions.specs.Summary.{Section}
use Rattle.memory.specs.View.{Shape, viewed}
use Rattle.memory.specs.Changes.{table, told}
use Rattle.rules_pairs.specs.declared.lists.Lists.{Lists}

-- how much of the memory is in use while e expressions of f are known
unfoldable pub shape_of : List ℕ → ℕ → ℕ → Lists → Shape
shape_of m f e l = record { known = e; expressions = expressions m f; globals = globals m; pairs = l.pairs; mixed = l.mixed }

-- the state that the memory w then stands for
unfoldable pub state_of : List ℕ → ℕ → ℕ → Lists → List ℕ → State
state_of m f e l w = viewed (shape_of m f e l) w

-- the callees' sections, as the report and the memory's table of sections have them
unfoldable pub callees : List ℕ → ℕ → List ℕ → List ℕ → List Section
callees m f report w = told (globals m) report (table w) f
