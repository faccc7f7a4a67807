-- `exact::all`: what is left to check gives the answer of all, while the open extents stand on the stack.
use Rattle.form_records.proofs.StepRuns.{done, halted}
use Rattle.form_statements.proofs.StatementLoop.{loop_begun, context_valid, owner_few, depth_room, turn_opened, loop_refused, loop_bad, loop_ended}
use Rattle.module.proofs.Places.{bounds, statement_itself}
use Rattle.std.proofs.Common.{arith}
use Rattle.std.proofs.lemmas.Result.{err_from_is_err_and}
use mathlib.Core.Path.{sym}
use Rattle.form_statements.proofs.exact.all.Goals as goal

pub loop-t-init : goal.loop-t-init
loop-t-init c = rw c.new-extents.ensures (loop_begun _ _ _ (bounds _ _ c.requires.0).laid.statements_are)

pub statement-requires-clause-context : goal.statement-requires-clause-context
statement-requires-clause-context c =
    rw (c.statement_at-x.ensures.index_is, c.owner.ensures, c.depth.ensures) (context_valid _ _ _ _ _ c.requires.0 c.requires.1 c.loop-t-test.true c.loop-t.invariant.extents)

pub statement-requires-clause-read : goal.statement-requires-clause-read
statement-requires-clause-read c = statement_itself c.statement_at-x.ensures

pub returns-in_err-statement : goal.returns-in_err-statement
returns-in_err-statement c = let p = err_from_is_err_and c.from_residual.result c.from_residual.ensures.1 in
    rw (p.1, p.2) (sym (loop_refused _ _ _ _ _ _ c.loop-t.invariant c.loop-t-test.true _ (halted _ _ _ (rw c.statement_at-x.ensures.index_is at c.statement.ensures) c.in_err-statement.was)))

pub hold_one-requires : goal.hold_one-requires
hold_one-requires c = omega (arith, owner_few _ _ _ _ c.loop-t.invariant.extents, (bounds _ _ c.requires.0).few_statements)

pub open-requires : goal.open-requires
open-requires c = depth_room _ _ _ _ _ _ _ c.loop-t.invariant (done _ _ (rw c.statement_at-x.ensures.index_is at c.statement.ensures) c.in_ok-statement.was) c.hold_one.ensures

pub loop-t-preserved : goal.loop-t-preserved
loop-t-preserved c =
    turn_opened _ _ _ _ _ _ _ _ _ c.loop-t.invariant c.loop-t-test.true (done _ _ (rw c.statement_at-x.ensures.index_is at c.statement.ensures) c.in_ok-statement.was) c.hold_one.ensures
    _ _ _ c.open.ensures c.statement_at-x.ensures.kind_is c.statement_at-x.ensures.end_is c.close-bad.ensures.closed c.close-bad.ensures.table

pub returns-in-Some : goal.returns-in-Some
returns-in-Some c = sym (loop_bad _ _ _ _ _ _ c.loop-t.invariant c.loop-t-test.false _ c.in-Some.is)

pub returns-in-None : goal.returns-in-None
returns-in-None c = sym (loop_ended _ _ _ _ _ _ c.loop-t.invariant c.loop-t-test.false c.in-None.is)
