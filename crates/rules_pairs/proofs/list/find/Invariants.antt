use Prim.Native.Nat.{◌-◌}
use Rattle.rules_pairs.proofs.PairValues.{ScanLoop}
use Rattle.rules_pairs.proofs.list.find.Given as goal

abbrev pub invariant-loop-i : goal.invariant-loop-i
invariant-loop-i l = ScanLoop l.b l.list l.n l.sought l.i

abbrev pub decreases-loop-i : goal.decreases-loop-i
decreases-loop-i l = l.n - l.i
