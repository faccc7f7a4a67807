use Prim.Native.Nat.{◌-◌}
use Rattle.rules_statements.proofs.WalkSteps.{WalkLoop}
use Rattle.rules_statements.proofs.+process_block.Given as goal

abbrev pub invariant-loop-at : goal.invariant-loop-at
invariant-loop-at l =
    WalkLoop l.m l.s l.report l.initial.work l.lo l.hi l.start l.initial.lists l.work l.at l.disruptor l.lists l.combined

abbrev pub decreases-loop-at : goal.decreases-loop-at
decreases-loop-at l = l.hi - l.at

-- the extent's length falls
abbrev pub decreases-process_block : goal.decreases-process_block
decreases-process_block l = l.hi - l.lo
