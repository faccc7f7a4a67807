use Rattle.definitions.specs.Pairs.{take_pair}
use Rattle.definitions.specs.Report.{r_mixed}
use Rattle.definitions.specs.Limits.{version_1}
use Rattle.rules_pairs.proofs.CalleeLists.{RecordLoop}
use Rattle.rules_pairs.proofs.calls.take_mixed.Given as goal

abbrev pub invariant-loop-i : goal.invariant-loop-i
invariant-loop-i l = RecordLoop (take_pair version_1 l.m l.s.function l.call.statement) r_mixed 6 l.report l.callee.at l.callee.n l.initial.work l.initial.lists l.work l.lists l.i
