-- Working memory has the records as the report does, so a copy writes them (Copies).
use Rattle.definitions.specs.Bytes.{byte}
use Rattle.report.proofs.Writers.{expressions_put}
use native.Mathlib.Omega.{arith}
use Rattle.memory.specs.Layout.{uses_at}
use Rattle.report.proofs.put_expressions.Goals as goal

pub returns : goal.returns
unfolding uses_at byte
returns c = expressions_put _ _ _ _ _ (record { small = λ i. omega (arith, c.fits-work i) }) (omega arith) (omega arith) c.copy.ensures
