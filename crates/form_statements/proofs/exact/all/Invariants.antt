use Rattle.form_statements.proofs.StatementLoop.{LoopLayout}
use Rattle.form_statements.proofs.exact.all.Given as goal

abbrev pub invariant-loop-t : goal.invariant-loop-t
invariant-loop-t l = LoopLayout l.m l.s.function l.s.statements l.extents l.bad l.t
