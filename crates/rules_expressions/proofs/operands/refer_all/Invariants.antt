use Rattle.rules_expressions.proofs.OperandLoop.{OperandLoop}
use Rattle.vocabulary.specs.Said.{origin_said}
use Rattle.rules_expressions.proofs.operands.refer_all.Given as goal

abbrev pub invariant-loop-j : goal.invariant-loop-j
invariant-loop-j l = OperandLoop l.m l.s l.x l.initial.work l.work (origin_said l.found) l.j
