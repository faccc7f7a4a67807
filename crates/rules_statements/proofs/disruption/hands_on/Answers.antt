-- It falls through, or it is the body of a Loop. Nothing stands before record 0, which is no Loop itself.
use Rattle.std.proofs.Common.{arith}
use Rattle.std.proofs.lemmas.Grind.{common_steps}
use Rattle.definitions.specs.Walk.{hands_on}
use Rattle.rules_statements.proofs.disruption.hands_on.Goals as goal

pub returns-then-x-eq-FALLS_THROUGH : goal.returns-then-x-eq-FALLS_THROUGH
unfolding hands_on
returns-then-x-eq-FALLS_THROUGH c = grind (arith, common_steps)

pub returns-then-x-gt0 : goal.returns-then-x-gt0
unfolding hands_on
returns-then-x-gt0 c = grind (arith, common_steps)

pub returns-else-x-gt0 : goal.returns-else-x-gt0
unfolding hands_on
returns-else-x-gt0 c = grind (arith, common_steps)
