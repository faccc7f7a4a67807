-- The header's functions are read where `r_functions` looks.
use Rattle.definitions.specs.Report.{r_functions}
use borrow.Author.Rules.{rules}
use Rattle.report.proofs.layout.functions.Goals as goal

pub returns : goal.returns
unfolding r_functions
returns c = search rules
