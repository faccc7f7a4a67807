-- The use byte is read where `r_use` looks.
use Rattle.definitions.specs.Report.{r_use}
use borrow.Author.Rules.{rules}
use Rattle.report.proofs.layout.global_use.Goals as goal

pub returns : goal.returns
unfolding r_use
returns c = search rules
