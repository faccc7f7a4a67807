-- Both numbers are read where `r_pair` looks.
use Rattle.definitions.specs.Report.{r_pair}
use Rattle.rules_pairs.specs.Said.{pair_said}
use Rattle.rules_pairs.proofs.ends.get_globals.Goals as goal

pub returns : goal.returns
unfolding pair_said r_pair
returns c = simp (c.get16.ensures, c.get16-2.ensures)
