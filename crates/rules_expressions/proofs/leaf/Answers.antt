-- A CallResult, or another leaf: no operands, and a line whose fields are the rules (Lines).
use Rattle.memory.specs.View.{viewed}
use Rattle.memory.specs.Layout.{size}
use mathlib.Core.Path.{◌∙◌}
use native.Mathlib.Omega.{arith}
use Rattle.rules_expressions.proofs.CarriedGlobal.{own_is, own_none}
use Rattle.rules_expressions.proofs.Lines.{leaf_operands, leaf_origin_is, leaf_requirements_are, call_origin_is, call_requirements_are, line_result}
use Rattle.rules_expressions.proofs.FromForm.{section_there, callee_section, own_line}
use Rattle.rules_expressions.proofs.leaf.Goals as goal

pub section-at-requires : goal.section-at-requires
section-at-requires c = omega (arith, section_there _ _ _ _ c.requires.0 c.if-x-eq-CALL_RESULT.true, c.from.ensures)

pub origin-o-requires : goal.origin-o-requires
origin-o-requires c = (callee_section _ _ _ _ c.requires.0 c.args.report.now _ _ _ c.requires.1 c.if-x-eq-CALL_RESULT.true c.from.ensures c.section-at.ensures).1

pub requirements-r-requires : goal.requirements-r-requires
requirements-r-requires c = (callee_section _ _ _ _ c.requires.0 c.args.report.now _ _ _ c.requires.1 c.if-x-eq-CALL_RESULT.true c.from.ensures c.section-at.ensures).1

pub set_expression-requires : goal.set_expression-requires
unfolding size
set_expression-requires c = own_line _ _ _ _ c.requires.0 _ c.told-work

pub set_expression-requires-else-x-eq-CALL_RESULT : goal.set_expression-requires-else-x-eq-CALL_RESULT
unfolding size
set_expression-requires-else-x-eq-CALL_RESULT c = own_line _ _ _ _ c.requires.0 _ c.told-work

pub returns-then-x-eq-CALL_RESULT : goal.returns-then-x-eq-CALL_RESULT
unfolding size
returns-then-x-eq-CALL_RESULT c = line_result _ _ _ _ c.requires.0 _ _ _ c.told-work _ (leaf_operands _ _ _ _ c.requires.0 _ c.requires.2 c.told-work) _ _ _ _ _ (λ h q. call_origin_is _ _ _ _ c.requires.0 _ _ _ c.if-x-eq-CALL_RESULT.true (callee_section _ _ _ _ c.requires.0 c.args.report.now _ _ _ c.requires.1 c.if-x-eq-CALL_RESULT.true c.from.ensures c.section-at.ensures).0 _ c.origin-o.ensures (viewed h c.args.work.now)) (call_requirements_are _ _ _ _ c.requires.0 _ _ _ c.if-x-eq-CALL_RESULT.true (callee_section _ _ _ _ c.requires.0 c.args.report.now _ _ _ c.requires.1 c.if-x-eq-CALL_RESULT.true c.from.ensures c.section-at.ensures).0 _ c.requirements-r.ensures) (c.none.ensures ∙ own_none _ _ _ _ c.requires.0.is (λ z. omega (arith, c.if-x-eq-CALL_RESULT.true))) c.set_expression.ensures

pub returns-else-x-eq-CALL_RESULT : goal.returns-else-x-eq-CALL_RESULT
unfolding size
returns-else-x-eq-CALL_RESULT c = line_result _ _ _ _ c.requires.0 _ _ _ c.told-work _ (leaf_operands _ _ _ _ c.requires.0 _ c.requires.2 c.told-work) _ _ _ _ _ (λ h q. leaf_origin_is _ _ _ _ c.requires.0 _ c.requires.2 c.if-x-eq-CALL_RESULT.false _ c.leaf_origin-o.ensures (viewed h c.args.work.now)) (leaf_requirements_are _ _ _ _ c.requires.0 _ c.requires.2 c.if-x-eq-CALL_RESULT.false _ c.empty-r.ensures) (c.own_global.ensures ∙ own_is _ _ _ _ c.requires.0) c.set_expression-else-x-eq-CALL_RESULT.ensures
