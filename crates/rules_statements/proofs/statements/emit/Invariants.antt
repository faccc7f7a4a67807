use Rattle.vocabulary.specs.Said.{disruptor_said}
use Rattle.rules_statements.proofs.EmitLoop.{EmitLoop}
use Rattle.rules_statements.proofs.statements.emit.Given as goal

abbrev pub invariant-loop-e : goal.invariant-loop-e
invariant-loop-e l = EmitLoop l.m l.s.function l.fn.x.index (disruptor_said l.d) l.work l.strict l.e-end l.e l.all.0
