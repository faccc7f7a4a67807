-- `extents::miscounted`: the three parts of the test.
use Rattle.std.proofs.Common.{rules}
use borrow.Author.Tests.{tests}
use Rattle.form_statements.specs.Extents as extents
use Rattle.form_statements.proofs.extents.miscounted.Goals as goal

pub returns-then-kind-eq-IF : goal.returns-then-kind-eq-IF
unfolding extents.miscounts
returns-then-kind-eq-IF c = search (rules, tests)

pub returns-else-kind-eq-IF : goal.returns-else-kind-eq-IF
unfolding extents.miscounts
returns-else-kind-eq-IF c = search (rules, tests)

pub returns-else-n-ne2 : goal.returns-else-n-ne2
unfolding extents.miscounts
returns-else-n-ne2 c = search (rules, tests)
