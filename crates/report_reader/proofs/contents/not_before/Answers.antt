-- The order of pairs is the definitions' (PairOrder).
use Rattle.report_reader.proofs.PairOrder.{not_before}
use Rattle.report_reader.proofs.contents.not_before.Goals as goal

pub returns : goal.returns
returns c = let order = not_before c.args.x c.args.y in cc
