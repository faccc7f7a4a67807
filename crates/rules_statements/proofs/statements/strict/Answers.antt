use Rattle.std.proofs.Common.{arith}
use Rattle.std.proofs.lemmas.Grind.{common_steps}
use Rattle.rules_statements.proofs.Disruptors.{some_is}
use Rattle.rules_statements.proofs.statements.strict.Goals as goal

pub returns-then-flag-eq1 : goal.returns-then-flag-eq1
returns-then-flag-eq1 c = grind (arith, common_steps, some_is)
