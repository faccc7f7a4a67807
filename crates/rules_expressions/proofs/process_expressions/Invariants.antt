use Rattle.rules_expressions.proofs.AllExpressions.{ExpressionLoop}
use Rattle.rules_expressions.proofs.process_expressions.Given as goal

abbrev pub invariant-loop-e : goal.invariant-loop-e
invariant-loop-e l = ExpressionLoop l.m l.s l.report l.initial.work l.work l.l l.e
