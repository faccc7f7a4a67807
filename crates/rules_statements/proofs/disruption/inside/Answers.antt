use Rattle.std.proofs.Common.{arith}
use Rattle.std.proofs.lemmas.Grind.{common_steps}
use Rattle.definitions.specs.Walk.{inside_start}
use Rattle.rules_statements.proofs.Disruptors.{or_is}
use Rattle.rules_statements.proofs.disruption.inside.Goals as goal

pub returns-then-branches : goal.returns-then-branches
unfolding inside_start
returns-then-branches c = λ l. let o = c.origin.ensures l in grind (arith, common_steps, or_is)

pub returns-else-branches : goal.returns-else-branches
unfolding inside_start
returns-else-branches c = λ l. grind (arith, common_steps)
