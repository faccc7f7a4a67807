-- The origin's code is read where `r_origin` looks.
use Rattle.definitions.specs.Origin.{origin_from}
use mathlib.Core.Path.{ap}
use Rattle.definitions.specs.Report.{r_origin}
use Rattle.report.proofs.layout.origin.Goals as goal

pub returns : goal.returns
unfolding r_origin
returns c = ap origin_from c.get16.ensures
