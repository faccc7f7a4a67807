-- A named expression a turn: those that are left give the rest (InitialiserLoops).
use Rattle.rules_expressions.proofs.InitialiserLoops.{named_start, named_line, named_again, named_done}
use Rattle.memory.specs.Layout.{size}
use Rattle.rules_expressions.proofs.process_named.Goals as goal

pub loop-i-init : goal.loop-i-init
unfolding size
loop-i-init c = named_start _ _ _ c.requires c.told-work

pub named-e-requires : goal.named-e-requires
named-e-requires c = (c.loop-i.invariant.sheet.stands, c.loop-i-test.true)

pub query_unused-requires : goal.query_unused-requires
query_unused-requires c = named_line _ _ _ _ _ c.loop-i.invariant c.loop-i-test.true _ c.named-e.ensures

pub loop-i-preserved : goal.loop-i-preserved
loop-i-preserved c = named_again _ _ _ _ _ c.loop-i.invariant c.loop-i-test.true _ c.named-e.ensures _ c.query_unused.ensures

pub returns : goal.returns
returns c = named_done _ _ _ _ _ c.loop-i.invariant c.loop-i-test.false
