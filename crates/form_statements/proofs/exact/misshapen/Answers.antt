-- `exact::misshapen`: the three parts of the test.
use Rattle.std.proofs.Common.{rules}
use borrow.Author.Tests.{tests}
use Rattle.form_statements.specs.Groups as groups
use Rattle.form_statements.proofs.exact.misshapen.Goals as goal

pub returns-then-idle_number : goal.returns-then-idle_number
unfolding groups.misshapen
returns-then-idle_number c = search (rules, tests)

pub returns-else-idle_number : goal.returns-else-idle_number
unfolding groups.misshapen
returns-else-idle_number c = search (rules, tests)
