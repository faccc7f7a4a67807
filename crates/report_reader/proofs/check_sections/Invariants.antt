use Rattle.report_reader.proofs.SectionLoop.{SectionLoop}
use Rattle.report_reader.proofs.check_sections.Given as goal

abbrev pub invariant-loop-f : goal.invariant-loop-f
invariant-loop-f l = SectionLoop l.b l.n l.f l.at
