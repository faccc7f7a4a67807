-- 01, 2.7 of a statement's operands. Where they stand in the pool of f is said by the record alone.
use Rattle.std.specs.Prelude.{ℕ, ◌+◌, List, Bool, leb, eqb}
use Rattle.definitions.specs.Module.{pooled, absent}
use Rattle.module.specs.declared.Statement.{Statement}

-- the operand at j is absent, or is none of so many expressions
unfoldable pub absent_at : List ℕ → ℕ → Statement → ℕ → Bool
absent_at m f x j = eqb (pooled m f (x.first + j)) absent

unfoldable pub unknown_at : List ℕ → ℕ → ℕ → Statement → ℕ → Bool
unknown_at m f expressions x j = leb expressions (pooled m f (x.first + j))
