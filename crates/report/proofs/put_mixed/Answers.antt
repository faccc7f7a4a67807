-- A record a turn: the turns that are left lay what is left (RecordLoop).
use Rattle.memory.specs.Layout.{mixed_at}
use Rattle.report.proofs.Lengths.{length_mixed}
use Rattle.report.proofs.RecordLoop.{loop_start, loop_more, loop_done}
use Rattle.report.proofs.put_mixed.Goals as goal

pub loop-i-init : goal.loop-i-init
loop-i-init c = loop_start _ _ _ _ _ _ _ _ _

pub loop-i-preserved : goal.loop-i-preserved
unfolding mixed_at
loop-i-preserved c = loop_more _ _ _ _ _ _ _ _ _ _ _ _ length_mixed c.loop-i-test.true c.loop-i.invariant c.put_mixed_pair.ensures

pub returns : goal.returns
returns c = loop_done _ _ _ _ _ _ _ _ _ _ _ c.loop-i-test.false c.loop-i.invariant
