-- The operands of an expression, one after another (01, 3.2, 3.3 and 3.5): what referring to them asks and leaves.
use Rattle.std.specs.Prelude.{ℕ, ◌+◌, ◌*◌, ◌<◌, ◌≡◌, cond, List, eqb, length}
use Rattle.definitions.specs.Module.{absent}
use Rattle.definitions.specs.Origin.{Origin, or_else}
use Rattle.definitions.specs.State.{operands_of}
use Rattle.module.specs.declared.Sheet.{Sheet}
use Rattle.module.specs.declared.Expression.{Expression}
use Rattle.memory.specs.Layout.{size}
use Rattle.memory.specs.View.{count_at}
use Rattle.memory.specs.Changes.{origin_of_line, referred, refer_lines, lines_origin}
use Rattle.rules_expressions.specs.Facts.{FormedExpression}

-- one operand y, which may be absent and marks u: what it leaves, and the origin after it
unfoldable pub with_operand : ℕ → List ℕ → ℕ → List ℕ
with_operand u w y = cond (eqb y absent) w (referred u w y)

unfoldable pub origin_with : Origin → List ℕ → ℕ → Origin
origin_with found w y = cond (eqb y absent) found (or_else found (origin_of_line w y))

pub record OperandResult (w w' : List ℕ) (y u : ℕ) (found o : Origin) : Type 0 where
  pub is : w' ≡ with_operand u w y
  pub long : length w' ≡ size
  pub origin : o ≡ origin_with found w y

-- an expression whose operands can be referred to: the count of each earlier expression can go up once for each
-- operand
pub record ValidOperands (m : List ℕ) (s : Sheet) (w : List ℕ) (x : Expression) : Type 0 where
  pub expression : FormedExpression m s x.index.0 x
  pub room : (y : ℕ) → y < x.index.0 → count_at w (9 * y) + x.count < 4294967296

-- what is left of e's operands, and the first origin among them
pub record OperandsResult (m : List ℕ) (f e : ℕ) (w w' : List ℕ) (o : Origin) : Type 0 where
  pub is : w' ≡ refer_lines (operands_of m f e) w
  pub long : length w' ≡ size
  pub origin : o ≡ lines_origin (operands_of m f e) w
