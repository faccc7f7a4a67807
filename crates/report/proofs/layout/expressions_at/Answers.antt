-- The expressions begin behind the mixed pairs.
use native.Mathlib.Omega.{arith}
use Rattle.definitions.specs.Report.{r_entries_at}
use Rattle.report.proofs.layout.expressions_at.Goals as goal

pub mixed_at-requires : goal.mixed_at-requires
unfolding r_entries_at
mixed_at-requires c = omega arith

pub overflow_add-result : goal.overflow_add-result
unfolding r_entries_at
overflow_add-result c = omega arith

pub returns : goal.returns
unfolding r_entries_at
returns c = omega arith
