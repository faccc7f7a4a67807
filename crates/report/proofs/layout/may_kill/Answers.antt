-- The byte is read where `r_may_kill` looks.
use lib.Dec.{eqb}
use Prim.Native.Nat.{ℕ}
use mathlib.Core.Path.{ap}
use Rattle.definitions.specs.Report.{r_may_kill}
use Rattle.report.proofs.layout.may_kill.Goals as goal

pub returns : goal.returns
unfolding r_may_kill
returns c = ap (λ (x : ℕ). eqb x 1) c.get8.ensures
