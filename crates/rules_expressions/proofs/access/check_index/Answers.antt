-- The index's line says whether it has an origin; then the capability decides (AccessChecks).
use mathlib.Core.Bool.{not}
use borrow.Author.Tests.{not-true}
use native.Mathlib.Omega.{arith}
use Rattle.memory.specs.Layout.{size}
use Rattle.module.proofs.Places.{header_room}
use mathlib.Core.Path.{ap, ◌∙◌}
use Rattle.rules_expressions.proofs.AccessChecks.{index_uniform, index_allowed, index_missing}
use Rattle.rules_expressions.proofs.FromForm.{index_pooled, index_fits, index_line, index_earlier, operand_is}
use Rattle.rules_expressions.proofs.access.check_index.Goals as goal

pub overflow_add-x : goal.overflow_add-x
overflow_add-x c = record { fits = index_fits _ _ _ _ c.requires.0 c.requires.2 }

pub pooled-index-requires : goal.pooled-index-requires
pooled-index-requires c = (c.requires.0.sheet.stands, index_pooled _ _ _ _ c.requires.0 c.requires.2)

pub origin-o-requires : goal.origin-o-requires
unfolding size
origin-o-requires c = index_line _ _ _ _ c.requires.0 c.requires.2 _ _ c.told-work c.pooled-index.ensures

pub returns-then-not-present : goal.returns-then-not-present
returns-then-not-present c = λ h q. index_uniform _ _ _ h _ _ _ q (index_earlier _ _ _ _ c.requires.0 c.requires.2) (c.pooled-index.ensures ∙ operand_is _ _ _ _ c.requires.0 1) c.origin-o.ensures _ c.present.ensures (not-true _ (ap not c.if-not-present.true))

pub capabilities-allowed-requires : goal.capabilities-allowed-requires
capabilities-allowed-requires c = omega (arith, header_room _ _ c.requires.0.sheet.stands)

pub returns-then-intersects : goal.returns-then-intersects
returns-then-intersects c = λ h q. index_allowed _ _ _ h _ _ _ q (index_earlier _ _ _ _ c.requires.0 c.requires.2) (c.pooled-index.ensures ∙ operand_is _ _ _ _ c.requires.0 1) c.origin-o.ensures _ _ c.capabilities-allowed.ensures c.wanted.ensures _ c.intersects.ensures c.if-intersects.true

pub returns : goal.returns
returns c = λ h q. index_missing _ _ _ h _ _ _ q (index_earlier _ _ _ _ c.requires.0 c.requires.2) (c.pooled-index.ensures ∙ operand_is _ _ _ _ c.requires.0 1) c.origin-o.ensures _ _ c.capabilities-allowed.ensures c.wanted.ensures _ c.intersects.ensures _ c.present.ensures c.if-not-present.false c.if-intersects.false
