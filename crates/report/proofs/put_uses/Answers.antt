-- Working memory has the use bytes as the report does, so a copy writes them (Copies).
use Rattle.report.proofs.Writers.{uses_put}
use native.Mathlib.Omega.{arith}
use Rattle.memory.specs.Layout.{uses_at, pairs_at}
use Rattle.report.proofs.put_uses.Goals as goal

pub returns : goal.returns
unfolding uses_at pairs_at
returns c = uses_put _ _ _ _ _ _ (omega arith) (omega arith) c.copy.ensures
