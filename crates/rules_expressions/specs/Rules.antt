-- The two checks of an Access to a binding array (01, 3.7), as the code comes to them.
use Rattle.std.specs.Prelude.{ℕ, Bool, ◌&&◌, not, List, [], ◌∷◌, eqb}
use Rattle.definitions.specs.Codes.{buffer_space, meets}
use Rattle.definitions.specs.Module.{kind, number, space, capabilities}
use Rattle.definitions.specs.Origin.{has_origin}
use Rattle.definitions.specs.Checks.{Check, refusal, ◌⇒◌}
use Rattle.definitions.specs.State.{State}
use Rattle.definitions.specs.Expressions.{index_origin, capability_asked}

-- the base is a global in Uniform or Storage
unfoldable pub buffer_base : List ℕ → ℕ → ℕ → Bool
buffer_base m f b = eqb (kind m f b) 2 && buffer_space (space m (number m f b))

-- the second check: the index has an origin, and the capability is missing that the base asks for
unfoldable pub index_check : List ℕ → ℕ → ℕ → State → List Check
index_check m f e s = (has_origin (index_origin m f e s) && not (meets (capabilities m) (capability_asked m f e)) ⇒ refusal 9 f e) ∷ []
