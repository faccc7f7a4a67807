-- `exact::has_number`: an Emit, a Call, and any other.
use Rattle.std.proofs.Common.{rules}
use borrow.Author.Tests.{tests}
use Rattle.definitions.specs.Roles as roles
use Rattle.form_statements.proofs.exact.has_number.Goals as goal

pub returns-then-kind-eq-EMIT : goal.returns-then-kind-eq-EMIT
unfolding roles.s_has_number
returns-then-kind-eq-EMIT c = search (rules, tests)

pub returns-else-kind-eq-EMIT : goal.returns-else-kind-eq-EMIT
unfolding roles.s_has_number
returns-else-kind-eq-EMIT c = search (rules, tests)
