-- The section ends behind the expressions.
use native.Mathlib.Omega.{arith}
use Rattle.definitions.specs.Report.{r_section_end}
use Rattle.report.proofs.layout.section_end.Goals as goal

pub expressions_at-requires : goal.expressions_at-requires
unfolding r_section_end
expressions_at-requires c = omega arith

pub overflow_add-result : goal.overflow_add-result
unfolding r_section_end
overflow_add-result c = omega arith

pub returns : goal.returns
unfolding r_section_end
returns c = omega arith
