use Rattle.rules_expressions.proofs.InitialiserLoops.{NamedLoop}
use Rattle.rules_expressions.proofs.process_named.Given as goal

abbrev pub invariant-loop-i : goal.invariant-loop-i
invariant-loop-i l = NamedLoop l.m l.s l.initial.work l.work l.i
