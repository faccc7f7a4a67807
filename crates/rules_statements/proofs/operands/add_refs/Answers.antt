use Rattle.memory.specs.Layout.{size}
use Rattle.rules_statements.proofs.OperandSteps.{refers_none, countable, refers_one, refers_all}
use Rattle.rules_statements.proofs.operands.add_refs.Goals as goal

pub loop-j-init : goal.loop-j-init
unfolding size
loop-j-init c = refers_none c.requires.0 c.told-work c.requires.1 c.requires.2

pub add_ref-requires : goal.add_ref-requires
add_ref-requires c = countable c.loop-j.invariant c.loop-j-test.true c.pooled-e.ensures

pub loop-j-preserved : goal.loop-j-preserved
loop-j-preserved c = refers_one c.loop-j.invariant c.loop-j-test.true c.pooled-e.ensures c.role.ensures c.add_ref.ensures.is c.add_ref.ensures.long

pub returns : goal.returns
returns c = refers_all c.loop-j.invariant c.loop-j-test.false
