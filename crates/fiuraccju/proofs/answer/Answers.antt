-- A report is as long as the answer says (the analyzer's Promises).
use Rattle.std.proofs.Common.{sym, arith, length-take}
use Rattle.analyzer.proofs.Promises.{length_is_said}
use Rattle.fiuraccju.proofs.answer.Goals as goal

pub slice_bounds-report-end : goal.slice_bounds-report-end
slice_bounds-report-end g c = omega (arith, length_is_said c.in-Ok.ensures, length-take c.in-Ok.n c.analyse.new.report)

pub slice_bounds-write_report-end : goal.slice_bounds-write_report-end
slice_bounds-write_report-end g c = sym (length_is_said c.in-Ok.ensures)
