-- The mask is read where `r_requirements` looks.
use Rattle.definitions.specs.Report.{r_requirements}
use borrow.Author.Rules.{rules}
use Rattle.report.proofs.layout.requirements.Goals as goal

pub returns : goal.returns
unfolding r_requirements
returns c = search rules
