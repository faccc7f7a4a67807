-- Four stores are `stored` (PairValues).
use lib.ListN.{length}
use mathlib.Core.Path.{ap, ◌∙◌}
use Rattle.rules_pairs.proofs.MoveUp.{length_stored}
use Rattle.rules_pairs.proofs.PairValues.{put_pair}
use Rattle.numbers.proofs.Laws.{length_store16}
use native.Mathlib.Omega.{arith}
use lib.ListN.{length-set}
use Rattle.rules_pairs.proofs.ends.put.Goals as goal

pub bounds-b-at-2 : goal.bounds-b-at-2
bounds-b-at-2 c = simp length-set (omega arith)

pub set16-requires : goal.set16-requires
set16-requires c = simp length-set (omega arith)

pub set16-requires-2 : goal.set16-requires-2
set16-requires-2 c = omega (arith, simp (length_store16, length-set) at (ap length c.set16.ensures))

pub shape_of-b : goal.shape_of-b
shape_of-b c = omega (arith, simp (length_store16, length-set) at (ap length c.set16.ensures), simp length_store16 at (ap length c.set16-2.ensures))

pub returns : goal.returns
returns c = let e = put_pair _ _ _ _ _ _ _ _ _ c.tag.ensures c.tag-2.ensures c.number.ensures c.number-2.ensures c.set16.ensures c.set16-2.ensures in record { is = e; long = ap length e ∙ length_stored _ _ _ }
