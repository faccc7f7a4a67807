-- An expression a turn: those that are left give the outcome of all (AllExpressions).
use Rattle.std.proofs.lemmas.Result.{err_from_is_err_and}
use mathlib.Core.Path.{◌∙◌}
use Rattle.memory.specs.Layout.{size}
use Rattle.rules_expressions.proofs.AllExpressions.{begin_room, expressions_start, expressions_again, expressions_refused, expressions_done, since_begin}
use Rattle.rules_expressions.proofs.process_expressions.Goals as goal

pub globals-requires : goal.globals-requires
globals-requires c = c.requires.0.formed.header_there

pub begin-requires : goal.begin-requires
begin-requires c = begin_room _ _ c.requires.0 _ _ c.from.ensures (c.from-2.ensures ∙ c.globals.ensures)

pub loop-e-init : goal.loop-e-init
unfolding size
loop-e-init c = expressions_start _ _ _ _ _ c.requires.0 c.told-work _ _ c.from.ensures (c.from-2.ensures ∙ c.globals.ensures) c.begin.ensures c.requires.1

pub process_expression-requires : goal.process_expression-requires
process_expression-requires c = (c.loop-e.invariant.state, c.loop-e-test.true)

pub returns-in_err-l : goal.returns-in_err-l
unfolding size
returns-in_err-l c = let p = err_from_is_err_and c.from_residual.result c.from_residual.ensures.1 in rw (p.1, p.2) (since_begin _ _ _ _ _ c.requires.0 c.told-work _ _ c.from.ensures (c.from-2.ensures ∙ c.globals.ensures) c.begin.ensures _ _ _ (expressions_refused _ _ _ _ _ _ _ c.loop-e.invariant _ _ c.loop-e-test.true c.process_expression.ensures _ c.in_err-l.was))

pub loop-e-preserved : goal.loop-e-preserved
loop-e-preserved c = expressions_again _ _ _ _ _ _ _ c.loop-e.invariant _ _ c.loop-e-test.true c.process_expression.ensures _ c.in_ok-l.was

pub returns : goal.returns
unfolding size
returns c = since_begin _ _ _ _ _ c.requires.0 c.told-work _ _ c.from.ensures (c.from-2.ensures ∙ c.globals.ensures) c.begin.ensures _ _ _ (expressions_done _ _ _ _ _ _ _ c.loop-e.invariant c.loop-e-test.false)
