-- Each section of a report has passed, so it lies within the bytes (SectionLoop).
use Rattle.std.proofs.Common.{refl}
use Rattle.report_reader.proofs.SectionLoop.{report_header, section_room, section_valid, next_at}
use Rattle.report_reader.proofs.section_of.Goals as goal

pub header_at-requires : goal.header_at-requires
header_at-requires c = record {
  begins = c.requires.begins;
  header = section_room _ _ _ c.requires;
  small = (report_header _ c.requires.is_report).small;
}

pub returns : goal.returns
returns c = record {
  bytes_are = refl;
  named = c.header_at.ensures.named;
  next = next_at _ _ _ c.requires _ c.header_at.ensures;
}

pub invariant_of-result : goal.invariant_of-result
invariant_of-result c = record { valid = section_valid _ _ _ c.requires _ c.header_at.ensures }
