-- 01, 2.6 of an expression's operands. Where they stand in the pool of f is said by the record alone.
use Rattle.std.specs.Prelude.{ℕ, ◌+◌, List, Bool, ◌&&◌, not, leb, eqb}
use Rattle.definitions.specs.Module.{pooled, absent}
use Rattle.definitions.specs.Roles.{role, misplaced}
use Rattle.module.specs.declared.Expression.{Expression}

-- the operand at j is misplaced, or is there and not earlier than the record
unfoldable pub misplaced_at : List ℕ → ℕ → Expression → ℕ → Bool
misplaced_at m f x j = misplaced (role x.kind x.sub j) (pooled m f (x.first + j))

unfoldable pub late_at : List ℕ → ℕ → Expression → ℕ → Bool
late_at m f x j = leb x.index.0 (pooled m f (x.first + j)) && not (eqb (pooled m f (x.first + j)) absent)
