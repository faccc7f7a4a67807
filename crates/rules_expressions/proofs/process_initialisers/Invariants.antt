use Rattle.rules_expressions.proofs.InitialiserLoops.{InitialiserLoop}
use Rattle.rules_expressions.proofs.process_initialisers.Given as goal

abbrev pub invariant-loop-i : goal.invariant-loop-i
invariant-loop-i l = InitialiserLoop l.m l.s l.initial.work l.work l.i
