-- Three numbers, one behind another.
use Rattle.report.proofs.Writers.{counts_put}
use Rattle.report.proofs.put_counts.Goals as goal

pub returns : goal.returns
returns c = counts_put _ _ _ _ _ _ _ _ c.set16.ensures c.set16-2.ensures c.set16-3.ensures
