-- `exact::has_sub`: an Arm, and any other.
use Rattle.std.proofs.Common.{rules}
use borrow.Author.Tests.{tests}
use Rattle.definitions.specs.Roles as roles
use Rattle.form_statements.proofs.exact.has_sub.Goals as goal

pub returns-then-kind-eq-ARM : goal.returns-then-kind-eq-ARM
unfolding roles.s_has_sub
returns-then-kind-eq-ARM c = search (rules, tests)

pub returns-else-kind-eq-ARM : goal.returns-else-kind-eq-ARM
unfolding roles.s_has_sub
returns-else-kind-eq-ARM c = search (rules, tests)
