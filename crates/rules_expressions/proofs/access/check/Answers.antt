-- No Access, no binding array, or the two checks in their order (AccessChecks).
use Rattle.definitions.specs.Expressions.{base}
use Rattle.memory.specs.View.{viewed}
use native.Mathlib.Omega.{arith}
use mathlib.Core.Path.{◌∙◌, sym}
use Rattle.rules_expressions.proofs.AccessChecks.{access_other, access_plain, access_image, access_buffer, access_base_wrong, buffer_global}
use Rattle.rules_expressions.proofs.FromForm.{base_pooled, base_read, base_there, sub_there}
use Rattle.rules_expressions.proofs.access.check.Goals as goal

pub returns-then-x-ne-ACCESS : goal.returns-then-x-ne-ACCESS
returns-then-x-ne-ACCESS c = λ h q. access_other _ _ _ _ c.requires.is (viewed h c.args.work.now) c.if-x-ne-ACCESS.true

pub returns-then-x-eq-NOT : goal.returns-then-x-eq-NOT
returns-then-x-eq-NOT c = λ h q. access_plain _ _ _ _ c.requires.is (viewed h c.args.work.now) c.if-x-ne-ACCESS.false c.if-x-eq-NOT.true

pub pooled-base-requires : goal.pooled-base-requires
pooled-base-requires c = (c.requires.sheet.stands, base_pooled _ _ _ _ c.requires (omega (arith, c.if-x-ne-ACCESS.false)) (omega (arith, c.if-x-ne-ACCESS.false)))

pub check_index-requires : goal.check_index-requires
unfolding base
check_index-requires c = (c.requires, record { is = base_read _ _ _ _ c.requires (omega (arith, c.if-x-ne-ACCESS.false)) (omega (arith, c.if-x-ne-ACCESS.false)) _ c.pooled-base.ensures; there = base_there _ _ _ _ c.requires (omega (arith, c.if-x-ne-ACCESS.false)) (omega (arith, c.if-x-ne-ACCESS.false)) _ c.pooled-base.ensures; global = λ a b. absurd (sub_there _ _ _ _ c.requires c.if-x-ne-ACCESS.false c.if-x-eq-NOT.false a b c.if-x-ne-BUFFERS.true) }, c.if-x-ne-ACCESS.false)

pub returns-then-x-ne-BUFFERS : goal.returns-then-x-ne-BUFFERS
returns-then-x-ne-BUFFERS c = λ h q. c.check_index.ensures h q ∙ access_image _ _ _ _ c.requires.is (viewed h c.args.work.now) c.if-x-ne-ACCESS.false c.if-x-eq-NOT.false c.if-x-ne-BUFFERS.true

pub is_buffer-requires : goal.is_buffer-requires
is_buffer-requires c = (c.requires.sheet, base_there _ _ _ _ c.requires (omega (arith, c.if-x-ne-ACCESS.false)) (omega (arith, c.if-x-ne-ACCESS.false)) _ c.pooled-base.ensures)

pub check_index-requires-then-is_buffer : goal.check_index-requires-then-is_buffer
unfolding base
check_index-requires-then-is_buffer c = (c.requires, record { is = base_read _ _ _ _ c.requires (omega (arith, c.if-x-ne-ACCESS.false)) (omega (arith, c.if-x-ne-ACCESS.false)) _ c.pooled-base.ensures; there = base_there _ _ _ _ c.requires (omega (arith, c.if-x-ne-ACCESS.false)) (omega (arith, c.if-x-ne-ACCESS.false)) _ c.pooled-base.ensures; global = λ a b. buffer_global _ _ _ (sym c.if-is_buffer.true ∙ c.is_buffer.ensures) }, c.if-x-ne-ACCESS.false)

pub returns-then-is_buffer : goal.returns-then-is_buffer
returns-then-is_buffer c = λ h q. c.check_index-then-is_buffer.ensures h q ∙ access_buffer _ _ _ _ c.requires.is (viewed h c.args.work.now) _ c.if-x-ne-ACCESS.false c.if-x-ne-BUFFERS.false (base_read _ _ _ _ c.requires (omega (arith, c.if-x-ne-ACCESS.false)) (omega (arith, c.if-x-ne-ACCESS.false)) _ c.pooled-base.ensures) (sym c.if-is_buffer.true ∙ c.is_buffer.ensures)

pub returns : goal.returns
returns c = λ h q. access_base_wrong _ _ _ _ c.requires.is (viewed h c.args.work.now) _ c.if-x-ne-ACCESS.false c.if-x-ne-BUFFERS.false (base_read _ _ _ _ c.requires (omega (arith, c.if-x-ne-ACCESS.false)) (omega (arith, c.if-x-ne-ACCESS.false)) _ c.pooled-base.ensures) (sym c.if-is_buffer.false ∙ c.is_buffer.ensures)
