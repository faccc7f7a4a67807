-- A global, or not (AccessChecks).
use mathlib.Core.Path.{◌∙◌}
use borrow.Author.Tests.{ne_eqb}
use Rattle.rules_expressions.proofs.AccessChecks.{base_buffer, base_none}
use Rattle.rules_expressions.proofs.FromForm.{base_space_there}
use Rattle.rules_expressions.proofs.access.is_buffer.Goals as goal

pub space-requires : goal.space-requires
space-requires c = base_space_there _ _ _ _ c.requires.0 c.requires.1 c.expression_at-y.ensures c.if-y-eq-GLOBAL_VARIABLE.true

pub returns-then-y-eq-GLOBAL_VARIABLE : goal.returns-then-y-eq-GLOBAL_VARIABLE
returns-then-y-eq-GLOBAL_VARIABLE c = base_buffer _ _ _ _ c.expression_at-y.ensures _ _ c.if-y-eq-GLOBAL_VARIABLE.true c.space.ensures c.is_buffer.ensures

pub returns-else-y-eq-GLOBAL_VARIABLE : goal.returns-else-y-eq-GLOBAL_VARIABLE
returns-else-y-eq-GLOBAL_VARIABLE c = ne_eqb _ _ c.if-y-eq-GLOBAL_VARIABLE.false ∙ base_none _ _ _ _ c.expression_at-y.ensures c.if-y-eq-GLOBAL_VARIABLE.false
