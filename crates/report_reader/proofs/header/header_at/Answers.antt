-- Each field is what `report` says of it, with the places as `report` has them.
use Rattle.std.proofs.Common.{rules}
use Rattle.report_reader.proofs.header.header_at.Goals as goal

pub returns : goal.returns
returns c = search rules
