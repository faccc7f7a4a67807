use Rattle.form_statements.proofs.StatementLoop.{QuickLoopLayout}
use Rattle.form_statements.proofs.fast.quick_accepts.Given as goal

abbrev pub invariant-loop-t : goal.invariant-loop-t
invariant-loop-t l = QuickLoopLayout l.m l.s.function l.s.statements l.extents l.t
