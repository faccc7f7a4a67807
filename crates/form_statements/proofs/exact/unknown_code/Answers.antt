-- `exact::unknown_code`: the two parts of the test.
use Rattle.std.proofs.Common.{rules}
use borrow.Author.Tests.{tests}
use Rattle.form_statements.specs.Groups as groups
use Rattle.form_statements.proofs.exact.unknown_code.Goals as goal

pub returns-then-x-gt-LAST : goal.returns-then-x-gt-LAST
unfolding groups.unknown_code
returns-then-x-gt-LAST c = search (rules, tests)

pub returns-else-x-gt-LAST : goal.returns-else-x-gt-LAST
unfolding groups.unknown_code
returns-else-x-gt-LAST c = search (rules, tests)
