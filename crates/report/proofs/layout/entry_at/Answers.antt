-- Each field is read where `r_entry` looks.
use Rattle.report.specs.Said.{entry_said}
use Rattle.definitions.specs.Report.{r_entry}
use Rattle.report.proofs.layout.entry_at.Goals as goal

pub returns : goal.returns
unfolding r_entry entry_said
returns c = cc
