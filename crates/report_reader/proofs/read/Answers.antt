-- The header, and then the sections of bytes whose header has passed.
use Rattle.std.proofs.Common.{sym, rules}
use Rattle.report_reader.specs.Reading.{and_then, reading}
use Rattle.report_reader.proofs.SectionLoop.{header_valid}
use Rattle.report_reader.proofs.read.Goals as goal

pub returns-in_err-check_header : goal.returns-in_err-check_header
unfolding reading and_then
returns-in_err-check_header c = search rules

pub check_sections-requires : goal.check_sections-requires
check_sections-requires c = header_valid _ (sym c.in_ok-check_header.ensures)

pub returns : goal.returns
unfolding reading and_then
returns c = search rules
