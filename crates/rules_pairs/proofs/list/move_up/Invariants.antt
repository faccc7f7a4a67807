use Rattle.rules_pairs.proofs.MoveUp.{MoveLoop}
use Rattle.rules_pairs.proofs.list.move_up.Given as goal

abbrev pub invariant-loop-i : goal.invariant-loop-i
invariant-loop-i l = MoveLoop l.initial.b l.a l.e l.b l.i
