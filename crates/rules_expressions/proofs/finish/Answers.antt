-- The operands, and then the line (Lines).
use mathlib.Core.Path.{refl}
use Rattle.memory.specs.Layout.{size}
use Rattle.rules_expressions.proofs.Lines.{first_origin_is, own_requirements_are, line_result}
use Rattle.rules_expressions.proofs.FromForm.{own_line}
use Rattle.rules_expressions.proofs.finish.Goals as goal

pub set_expression-requires : goal.set_expression-requires
set_expression-requires c = own_line _ _ _ _ c.requires.0.expression _ c.refer_all-o.ensures.long

pub returns : goal.returns
unfolding size
returns c = λ done. line_result _ _ _ _ c.requires.0.expression done _ _ c.told-work _ c.refer_all-o.ensures _ _ _ _ _ (first_origin_is _ _ _ _ c.requires.0.expression done c.requires.1 _ _ c.refer_all-o.ensures.origin) (own_requirements_are _ _ _ _ c.requires.0.expression done c.requires.1 _ c.requirements-r.ensures) refl c.set_expression.ensures
