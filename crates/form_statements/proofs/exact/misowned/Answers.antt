-- `exact::misowned`: an Arm asks the opposite of its owner.
use Rattle.std.proofs.Common.{rules}
use borrow.Author.Tests.{tests}
use Rattle.definitions.specs.Form as checks
use Rattle.form_statements.proofs.exact.misowned.Goals as goal

pub returns-then-kind-eq-ARM : goal.returns-then-kind-eq-ARM
unfolding checks.misowned
returns-then-kind-eq-ARM c = search (rules, tests)

pub returns-else-kind-eq-ARM : goal.returns-else-kind-eq-ARM
unfolding checks.misowned
returns-else-kind-eq-ARM c = search (rules, tests)
