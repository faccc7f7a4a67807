use Rattle.analyzer.proofs.FunctionLoop.{Turn}
use Rattle.analyzer.proofs.process_functions.Given as goal

abbrev pub invariant-loop-f : goal.invariant-loop-f
invariant-loop-f l = Turn l.m l.initial.report l.report l.work l.n l.at l.out l.f
