-- `exact::unnamed`: of the two parts of the test at most one is about the kind at hand.
use Rattle.std.proofs.Common.{rules}
use borrow.Author.Tests.{tests}
use Rattle.form_statements.specs.Groups as groups
use Rattle.form_statements.proofs.exact.unnamed.Goals as goal

pub returns-then-x : goal.returns-then-x
unfolding groups.unnamed
returns-then-x c = search (rules, tests)

pub returns-else-x : goal.returns-else-x
unfolding groups.unnamed
returns-else-x c = search (rules, tests)

pub returns-in-6 : goal.returns-in-6
unfolding groups.unnamed
returns-in-6 c = search (rules, tests)

pub returns-in_default : goal.returns-in_default
unfolding groups.unnamed
returns-in_default c = search (rules, tests)
