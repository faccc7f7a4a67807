use Rattle.std.proofs.Common.{arith}
use Rattle.std.proofs.lemmas.Grind.{common_steps}
use Rattle.definitions.specs.Codes.{BARRIER, COOPERATIVE}
use Rattle.rules_statements.proofs.statements.stops.Goals as goal

pub returns-then-strict : goal.returns-then-strict
unfolding BARRIER COOPERATIVE
returns-then-strict c = grind (arith, common_steps)
