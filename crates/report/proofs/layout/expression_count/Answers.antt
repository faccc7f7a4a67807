-- The count is read where `r_expressions` looks.
use Rattle.definitions.specs.Report.{r_expressions}
use borrow.Author.Rules.{rules}
use Rattle.report.proofs.layout.expression_count.Goals as goal

pub returns : goal.returns
unfolding r_expressions
returns c = search rules
