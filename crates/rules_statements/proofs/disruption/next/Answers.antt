use Rattle.std.proofs.Common.{arith}
use Rattle.std.proofs.lemmas.Grind.{common_steps}
use Rattle.definitions.specs.Walk.{next}
use Rattle.rules_statements.proofs.Disruptors.{or_is}
use Rattle.rules_statements.proofs.disruption.next.Goals as goal

pub returns-then-ends_apart : goal.returns-then-ends_apart
unfolding next
returns-then-ends_apart c = grind (arith, common_steps)

pub returns-else-ends_apart : goal.returns-else-ends_apart
unfolding next
returns-else-ends_apart c = grind (arith, common_steps, or_is)
