use Rattle.definitions.specs.Report.{pair_bytes, r_mixed}
use Rattle.memory.specs.Layout.{pairs_at}
use Rattle.report.proofs.RecordLoop.{RecordLoop}
use Rattle.report.proofs.put_pairs.Given as goal

abbrev pub invariant-loop-i : goal.invariant-loop-i
invariant-loop-i l = RecordLoop pair_bytes r_mixed 6 4 l.work pairs_at l.pairs l.initial.report l.at l.report l.i
