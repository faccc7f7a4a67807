-- `exact::badly_nested`: the five parts of the test.
use Rattle.std.proofs.Common.{rules}
use borrow.Author.Tests.{tests}
use Rattle.form_statements.specs.Groups as groups
use Rattle.form_statements.proofs.exact.badly_nested.Goals as goal

pub returns-then-misowned : goal.returns-then-misowned
unfolding groups.badly_nested
returns-then-misowned c = search (rules, tests)

pub returns-else-misowned : goal.returns-else-misowned
unfolding groups.badly_nested
returns-else-misowned c = search (rules, tests)
