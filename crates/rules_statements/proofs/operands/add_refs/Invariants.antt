use Rattle.rules_statements.proofs.OperandSteps.{OperandLoop}
use Rattle.rules_statements.proofs.operands.add_refs.Given as goal

abbrev pub invariant-loop-j : goal.invariant-loop-j
invariant-loop-j l = OperandLoop l.m l.s l.x.index l.x.first l.x.count l.x.kind l.initial.work l.work l.j
