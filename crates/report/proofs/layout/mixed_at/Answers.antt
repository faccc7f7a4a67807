-- The mixed pairs begin behind the pairs.
use mathlib.Core.List.{[]}
use native.Mathlib.Omega.{arith}
use Rattle.definitions.specs.Report.{r_pairs_at, r_mixed_at}
use Rattle.report.proofs.layout.mixed_at.Goals as goal

pub pairs_at-requires : goal.pairs_at-requires
unfolding r_pairs_at r_mixed_at
pairs_at-requires c = omega arith

pub overflow_add-result : goal.overflow_add-result
unfolding r_pairs_at r_mixed_at
overflow_add-result c = omega (arith, c.pairs_at.ensures [])

pub returns : goal.returns
unfolding r_pairs_at r_mixed_at
returns c = omega (arith, c.pairs_at.ensures [])
