-- The count is read where `r_mixed_count` looks.
use Rattle.definitions.specs.Report.{r_mixed_count}
use borrow.Author.Rules.{rules}
use Rattle.report.proofs.layout.mixed_count.Goals as goal

pub returns : goal.returns
unfolding r_mixed_count
returns c = search rules
