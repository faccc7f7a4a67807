-- 01, 3.1 and 3.5: the origin of non-uniformity. One type, one join, one way to write it; nothing else looks inside.
use Rattle.std.specs.Prelude.{ℕ, Bool, true, false, cond, eqb}
use Rattle.definitions.specs.Module.{absent}

-- an expression number, or none
pub data Origin : Type 0 where
  nowhere : Origin
  from_expression : ℕ → Origin

-- the first that there is
unfoldable pub or_else : Origin → Origin → Origin
or_else nowhere o = o
or_else (from_expression e) o = from_expression e

unfoldable pub has_origin : Origin → Bool
has_origin nowhere = false
has_origin (from_expression e) = true

-- in the report an origin is a u16, 65535 none (7.2, 7.4)
unfoldable pub origin_number : Origin → ℕ
origin_number nowhere = absent
origin_number (from_expression e) = e

unfoldable pub origin_from : ℕ → Origin
origin_from x = cond (eqb x absent) nowhere (from_expression x)
