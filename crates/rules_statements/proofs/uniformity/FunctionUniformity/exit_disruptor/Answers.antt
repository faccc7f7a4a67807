use Rattle.std.proofs.Common.{arith}
use Rattle.std.proofs.lemmas.Grind.{common_steps}
use Rattle.definitions.specs.Walk.{exit}
use Rattle.rules_statements.proofs.uniformity.FunctionUniformity.exit_disruptor.Goals as goal

pub returns-then-may_return : goal.returns-then-may_return
unfolding exit
returns-then-may_return c = grind (arith, common_steps)

pub returns-then-may_kill : goal.returns-then-may_kill
unfolding exit
returns-then-may_kill c = grind (arith, common_steps)

pub returns-else-may_kill : goal.returns-else-may_kill
unfolding exit
returns-else-may_kill c = grind (arith, common_steps)
