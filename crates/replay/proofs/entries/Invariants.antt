-- No more entries are as listed than there were.
use Rattle.std.proofs.Common.{◌≤◌}
use Rattle.replay.proofs.entries.Given as goal

abbrev pub invariant-loop-i : goal.invariant-loop-i
invariant-loop-i g l = l.same ≤ l.i-counter
