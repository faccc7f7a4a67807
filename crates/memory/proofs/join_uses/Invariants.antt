use Rattle.memory.specs.Layout.{uses_at}
use Rattle.memory.specs.Changes.{anew, joined_with}
use Rattle.memory.proofs.Loops.{Doing}
use Rattle.memory.proofs.join_uses.Given as goal

abbrev pub invariant-loop-i : goal.invariant-loop-i
invariant-loop-i l = Doing (anew (joined_with l.report l.at) uses_at) l.n l.initial.work l.work l.i
