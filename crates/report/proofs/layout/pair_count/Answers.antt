-- The count is read where `r_pair_count` looks.
use Rattle.definitions.specs.Report.{r_pair_count}
use borrow.Author.Rules.{rules}
use Rattle.report.proofs.layout.pair_count.Goals as goal

pub returns : goal.returns
unfolding r_pair_count
returns c = search rules
