use native.Mathlib.Omega.{arith}
use Rattle.std.proofs.lemmas.Result.{err_from_is_err_and}
use Rattle.memory.specs.Layout.{size}
use Rattle.analyzer.proofs.FunctionLoop.{header_there, first_turn, sheet_there, next_there, turn_again, turn_refused, turns_end}
use Rattle.analyzer.proofs.process_functions.Goals as goal

pub functions-n-requires : goal.functions-n-requires
functions-n-requires c = header_there c.requires

pub globals-requires : goal.globals-requires
globals-requires c = header_there c.requires

pub overflow_add-at : goal.overflow_add-at
overflow_add-at c = omega arith

pub loop-f-init : goal.loop-f-init
unfolding size
loop-f-init c = first_turn c.requires c.told-work c.functions-n.ensures c.globals.ensures c.from-at.ensures

pub sheet_at-s-requires : goal.sheet_at-s-requires
sheet_at-s-requires c = sheet_there c.loop-f.invariant c.loop-f-test.true

pub process_next-requires : goal.process_next-requires
process_next-requires c = next_there c.loop-f.invariant c.loop-f-test.true c.sheet_at-s.ensures

pub returns-in_err-out : goal.returns-in_err-out
returns-in_err-out c = let p = err_from_is_err_and c.from_residual.result c.from_residual.ensures.1 in rw (p.1, p.2) (turn_refused c.loop-f.invariant c.loop-f-test.true c.sheet_at-s.ensures c.process_next.ensures c.in_err-out.was)

pub loop-f-preserved : goal.loop-f-preserved
loop-f-preserved c = turn_again c.loop-f.invariant c.loop-f-test.true c.sheet_at-s.ensures c.process_next.ensures c.in_ok-out.was

pub shape_of-report : goal.shape_of-report
shape_of-report c = c.loop-f.invariant.report_long

pub returns : goal.returns
returns c = turns_end c.loop-f.invariant c.loop-f-test.false
