-- A leaf or not; then the next expression can be processed (AllExpressions).
use mathlib.Core.Path.{◌∙◌, sym}
use borrow.Author.Tests.{leb-true, leb-false}
use Rattle.rules_expressions.proofs.AllExpressions.{formed_here, valid_here, step_result, leaf_result}
use Rattle.rules_expressions.proofs.process_expression.Goals as goal

pub leaf-requires : goal.leaf-requires
leaf-requires c = (formed_here _ _ _ _ _ _ c.requires.0 c.requires.1 _ c.expression_at-x.ensures, c.requires.0.sections, (leb-true _ 4 (sym c.is_leaf.ensures ∙ c.if-is_leaf.true)))

pub composite-requires : goal.composite-requires
composite-requires c = (valid_here _ _ _ _ _ _ c.requires.0 c.requires.1 _ c.expression_at-x.ensures, leb-false _ 4 (sym c.is_leaf.ensures ∙ c.if-is_leaf.false))

pub returns-then-is_leaf : goal.returns-then-is_leaf
returns-then-is_leaf c = leaf_result _ _ _ _ _ _ c.requires.0 c.requires.1 _ c.expression_at-x.ensures _ (leb-true _ 4 (sym c.is_leaf.ensures ∙ c.if-is_leaf.true)) c.leaf.ensures

pub returns-else-is_leaf : goal.returns-else-is_leaf
returns-else-is_leaf c = step_result _ _ _ _ _ _ c.requires.0 c.requires.1 _ c.expression_at-x.ensures _ _ (c.composite.ensures _)
