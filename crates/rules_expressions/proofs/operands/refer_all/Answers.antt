-- An operand a turn: what is left gives the whole (OperandLoop).
use Rattle.memory.specs.Layout.{size}
use Rattle.rules_expressions.proofs.OperandLoop.{operands_start, operands_again, operands_done, operand_pooled, operand_fits, operand_countable}
use Rattle.rules_expressions.proofs.operands.refer_all.Goals as goal

pub loop-j-init : goal.loop-j-init
unfolding size
loop-j-init c = operands_start _ _ _ _ _ c.requires c.told-work c.none-found.ensures

pub overflow_add-x : goal.overflow_add-x
overflow_add-x c = record { fits = operand_fits _ _ _ _ _ _ _ c.loop-j.invariant c.loop-j-test.true }

pub pooled-y-requires : goal.pooled-y-requires
pooled-y-requires c = (c.requires.expression.sheet.stands, operand_pooled _ _ _ _ _ _ _ c.loop-j.invariant c.loop-j-test.true)

pub refer-found-requires : goal.refer-found-requires
refer-found-requires c = operand_countable _ _ _ _ _ _ _ c.loop-j.invariant c.loop-j-test.true _ c.pooled-y.ensures

pub loop-j-preserved : goal.loop-j-preserved
loop-j-preserved c = operands_again _ _ _ _ _ _ _ c.loop-j.invariant c.loop-j-test.true _ c.pooled-y.ensures _ _ _ c.role.ensures c.refer-found.ensures

pub returns : goal.returns
returns c = operands_done _ _ _ _ _ _ _ c.loop-j.invariant c.loop-j-test.false
