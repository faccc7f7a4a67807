-- Four fields, one behind another.
use Rattle.report.proofs.Writers.{header_put}
use Rattle.report.proofs.put_header.Goals as goal

pub returns : goal.returns
returns c = header_put _ _ _ _ _ _ _ _ c.set32.ensures c.set16.ensures c.set16-2.ensures
