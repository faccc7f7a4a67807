-- The operand is absent, or it is there (OperandLoop).
use Rattle.definitions.specs.Module.{absent}
use Rattle.memory.specs.Layout.{size}
use borrow.Author.Tests.{eqb-false}
use mathlib.Core.Path.{sym, ◌∙◌}
use Rattle.rules_expressions.proofs.OperandLoop.{operand_absent, operand_there}
use Rattle.rules_expressions.proofs.operands.refer.Goals as goal

pub returns-then-is_absent : goal.returns-then-is_absent
unfolding size
returns-then-is_absent c = operand_absent _ _ _ _ (sym c.if-is_absent.true ∙ c.is_absent.ensures) c.told-work

pub add_ref-o-requires : goal.add_ref-o-requires
add_ref-o-requires c = c.requires (eqb-false _ absent (sym c.is_absent.ensures ∙ c.if-is_absent.false))

pub returns : goal.returns
returns c = operand_there _ _ _ _ _ _ _ (sym c.if-is_absent.false ∙ c.is_absent.ensures) c.add_ref-o.ensures c.or_else.ensures
