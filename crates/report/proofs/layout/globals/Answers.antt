-- The header's globals are read where `r_globals` looks.
use Rattle.definitions.specs.Report.{r_globals}
use borrow.Author.Rules.{rules}
use Rattle.report.proofs.layout.globals.Goals as goal

pub returns : goal.returns
unfolding r_globals
returns c = search rules
