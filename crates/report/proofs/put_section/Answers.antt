-- The six writers lay their parts one behind another, and together these are the section (SectionBytes).
use mathlib.Core.List.{[]}
use native.Mathlib.Omega.{arith}
use Rattle.definitions.specs.Report.{r_pairs_at}
use Rattle.memory.specs.Layout.{uses_at, pairs_at, mixed_at, sections_at}
use Rattle.report.specs.Written.{full_shape}
use Rattle.report.proofs.SectionBytes.{section_put}
use Rattle.report.proofs.put_section.Goals as goal

pub put_pairs-requires : goal.put_pairs-requires
unfolding full_shape uses_at pairs_at mixed_at sections_at r_pairs_at
put_pairs-requires c = omega (arith, c.pairs_at-pairs_at.ensures [])

pub overflow_add-mixed_at : goal.overflow_add-mixed_at
unfolding full_shape uses_at pairs_at mixed_at sections_at r_pairs_at
overflow_add-mixed_at c = omega (arith, c.pairs_at-pairs_at.ensures [])

pub put_mixed-requires : goal.put_mixed-requires
unfolding full_shape uses_at pairs_at mixed_at sections_at r_pairs_at
put_mixed-requires c = omega (arith, c.pairs_at-pairs_at.ensures [])

pub overflow_add-expressions_at : goal.overflow_add-expressions_at
unfolding full_shape uses_at pairs_at mixed_at sections_at r_pairs_at
overflow_add-expressions_at c = omega (arith, c.pairs_at-pairs_at.ensures [])

pub put_expressions-requires : goal.put_expressions-requires
unfolding full_shape uses_at pairs_at mixed_at sections_at r_pairs_at
put_expressions-requires c = omega (arith, c.pairs_at-pairs_at.ensures [])

pub returns : goal.returns
unfolding r_pairs_at
returns c = section_put _ _ _ _ _ _ _ _ _ _ _ _ _ _ _ _ c.uses_at.ensures (c.pairs_at-pairs_at.ensures []) c.put_summary.ensures c.put_counts.ensures c.put_uses.ensures c.put_pairs.ensures c.put_mixed.ensures c.put_expressions.ensures
