-- The walk: what is left of the extent gives the answer of the whole. Each way through the loop's body is one law of WalkSteps.
use Rattle.std.proofs.lemmas.Result.{err_from_is_err_and}
use Rattle.rules_statements.proofs.WalkSteps.{begins, standing, statement_carried, ready_carried, own_refuses, bare, inner_refuses, walked_in, goes_on, ends}
use Rattle.rules_statements.proofs.EmitSteps.{emit_refuses, emits_on}
use Rattle.rules_statements.proofs.+process_block.Goals as goal
use Rattle.rules_statements.proofs.+process_block.Goals.{then-x-at, else-x-at+in_ok-held}

pub loop-at-init : goal.loop-at-init
loop-at-init t c = begins _ c.requires.0 c.requires.1 c.requires.2 c.new-combined.ensures

pub statement_at-x-requires : goal.statement_at-x-requires
statement_at-x-requires t c = (c.loop-at.invariant.ready.held.stands, (standing c.loop-at.invariant c.loop-at-test.true).there)

pub emit-requires : goal.emit-requires
emit-requires t c = (c.loop-at.invariant.ready.held, statement_carried c.loop-at.invariant c.loop-at-test.true c.statement_at-x.ensures, c.if-x-eq-EMIT.true)

pub returns-in_err-emitted : goal.returns-in_err-emitted
returns-in_err-emitted t c = let p = err_from_is_err_and c.from_residual.result c.from_residual.ensures.1 in rw (p.1, p.2) (emit_refuses c.loop-at.invariant c.loop-at-test.true c.statement_at-x.ensures c.if-x-eq-EMIT.true _ (rw c.statement_at-x.ensures.index_is at c.in_err-emitted.ensures))

pub loop-at-preserved-in_ok-emitted : goal.loop-at-preserved-in_ok-emitted
loop-at-preserved-in_ok-emitted t c = emits_on c.loop-at.invariant c.loop-at-test.true c.statement_at-x.ensures c.if-x-eq-EMIT.true _ (rw c.statement_at-x.ensures.index_is at c.in_ok-emitted.ensures) c.join-combined.ensures

pub process_statement-requires : goal.process_statement-requires
process_statement-requires t c = (ready_carried c.loop-at.invariant c.statement_at-x.ensures, statement_carried c.loop-at.invariant c.loop-at-test.true c.statement_at-x.ensures, c.if-x-eq-EMIT.false)

pub returns-in_err-own : goal.returns-in_err-own
returns-in_err-own t c = let p = err_from_is_err_and c.from_residual-in_err-own.result c.from_residual-in_err-own.ensures.1 in rw (p.1, p.2) (own_refuses c.loop-at.invariant c.loop-at-test.true (rw c.statement_at-x.ensures.index_is at c.in_err-own.ensures))

pub inside-inside-requires : goal.inside-inside-requires
inside-inside-requires t c = (c.in_ok-own.ensures.on.held, statement_carried c.loop-at.invariant c.loop-at-test.true c.statement_at-x.ensures)

pub returns-in_err-held : goal.returns-in_err-held
returns-in_err-held t c = let p = err_from_is_err_and c.from_residual-in_err-held.result c.from_residual-in_err-held.ensures.1 in rw (p.1, p.2) (inner_refuses c.loop-at.invariant c.loop-at-test.true _ c.statement_at-x.ensures (rw c.statement_at-x.ensures.index_is at c.in_ok-own.ensures) (c.inside-inside.ensures _) c.in_err-held.ensures)

pub next-disruptor-requires : goal.next-disruptor-requires
next-disruptor-requires t c = (c.loop-at.invariant.ready.held.stands, statement_carried c.loop-at.invariant c.loop-at-test.true c.statement_at-x.ensures)

pub loop-at-preserved : goal.loop-at-preserved
loop-at-preserved t c =
    goes_on c.loop-at.invariant c.loop-at-test.true {w' = c.if-x-at.work} {p = c.if-x-at.whole} c.statement_at-x.ensures
    (elim c.if-x-at.branch [
      | then-x-at w ↦ rw (w.work-is, w.whole-is) (bare c.loop-at.invariant c.loop-at-test.true c.statement_at-x.ensures w.if-x-at.true (rw c.statement_at-x.ensures.index_is at c.in_ok-own.ensures))
      | else-x-at+in_ok-held w ↦ rw (w.work-is, w.whole-is) (walked_in c.loop-at.invariant c.loop-at-test.true _ c.statement_at-x.ensures (rw c.statement_at-x.ensures.index_is at c.in_ok-own.ensures) (w.inside-inside.ensures _) _ w.in_ok-held.ensures w.join.ensures)
    ])
    (rw c.statement_at-x.ensures.index_is at c.next-disruptor.ensures) c.join-combined-else-x-eq-EMIT.ensures

pub returns : goal.returns
returns t c = ends c.loop-at.invariant c.loop-at-test.false
