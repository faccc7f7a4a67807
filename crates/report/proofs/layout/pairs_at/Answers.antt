-- The pairs begin behind the use bytes.
use Rattle.definitions.specs.Report.{r_pairs_at}
use borrow.Author.Rules.{rules}
use Rattle.report.proofs.layout.pairs_at.Goals as goal

pub returns : goal.returns
unfolding r_pairs_at
returns c = λ b. search rules
