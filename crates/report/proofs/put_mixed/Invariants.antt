use Rattle.definitions.specs.Report.{mixed_bytes, r_mixed}
use Rattle.memory.specs.Layout.{mixed_at}
use Rattle.report.proofs.RecordLoop.{RecordLoop}
use Rattle.report.proofs.put_mixed.Given as goal

abbrev pub invariant-loop-i : goal.invariant-loop-i
invariant-loop-i l = RecordLoop mixed_bytes r_mixed 6 6 l.work mixed_at l.mixed l.initial.report l.at l.report l.i
