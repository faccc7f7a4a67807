use Rattle.analyzer.proofs.RunEnd.{run_ends}
use Rattle.analyzer.proofs.analyse.Goals as goal

pub returns : goal.returns
returns c = run_ends _ _ _ _ _ _ _ _ _ c.checked-answer.ensures c.unwrap_or.ensures c.clear-2.ensures c.clear.ensures
