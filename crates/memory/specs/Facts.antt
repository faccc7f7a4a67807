-- What the contracts ask and promise, with names for the parts.
use Rattle.std.specs.Prelude.{ℕ, ◌+◌, ◌*◌, ◌≤◌, ◌<◌, ◌≡◌, List, length}
use Rattle.definitions.specs.Origin.{Origin}
use Rattle.memory.specs.Layout.{uses_at, pairs_at, mixed_at, sections_at, size}
use Rattle.memory.specs.View.{Shape, count_at}
use Rattle.memory.specs.Changes.{origin_of_line, referred}

-- a shape for which the memory has room
pub record ValidShape (h : Shape) : Type 0 where
  pub known_in : h.known ≤ h.expressions
  pub expressions_in : 9 * h.expressions ≤ uses_at
  pub globals_in : uses_at + h.globals ≤ pairs_at
  pub pairs_in : pairs_at + 6 * h.pairs ≤ mixed_at
  pub mixed_in : mixed_at + 6 * h.mixed ≤ sections_at

-- the working memory, with a line for expression e
pub record ValidLine (w : List ℕ) (e : ℕ) : Type 0 where
  pub long : length w ≡ size
  pub here : 9 * e + 9 ≤ size

-- and its count can go up
pub record ValidCount (w : List ℕ) (e : ℕ) : Type 0 where
  pub long : length w ≡ size
  pub here : 9 * e + 9 ≤ size
  pub room : count_at w (9 * e) < 4294967295

-- the memory is left as w
pub record MemoryResult (w' w : List ℕ) : Type 0 where
  pub is : w' ≡ w
  pub long : length w' ≡ size

-- a reference to e that marks u, with the answer o
pub record ReferenceResult (w w' : List ℕ) (e u : ℕ) (o : Origin) : Type 0 where
  pub is : w' ≡ referred u w e
  pub long : length w' ≡ size
  pub origin : o ≡ origin_of_line w e
