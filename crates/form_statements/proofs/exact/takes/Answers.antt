-- `exact::takes`: 5.2 of each kind with operands.
use Rattle.std.proofs.Common.{rules}
use borrow.Author.Tests.{tests}
use Rattle.definitions.specs.Roles as roles
use Rattle.form_statements.proofs.exact.takes.Goals as goal

pub returns-in-4 : goal.returns-in-4
unfolding roles.s_takes
returns-in-4 c = search (rules, tests)

pub returns-in-5 : goal.returns-in-5
unfolding roles.s_takes
returns-in-5 c = search (rules, tests)

pub returns-in-6 : goal.returns-in-6
unfolding roles.s_takes
returns-in-6 c = search (rules, tests)

pub returns-in-8 : goal.returns-in-8
unfolding roles.s_takes
returns-in-8 c = search (rules, tests)

pub returns-in_default : goal.returns-in_default
unfolding roles.s_takes
returns-in_default c = search (rules, tests)
