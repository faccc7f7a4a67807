-- An initialiser a turn: those that are left give the rest (InitialiserLoops).
use Rattle.memory.specs.Layout.{size}
use Rattle.rules_expressions.proofs.InitialiserLoops.{initialisers_start, initialiser_countable, initialisers_again, initialisers_done}
use Rattle.rules_expressions.proofs.process_initialisers.Goals as goal

pub loop-i-init : goal.loop-i-init
unfolding size
loop-i-init c = initialisers_start _ _ _ c.requires c.told-work

pub initialiser-e-requires : goal.initialiser-e-requires
initialiser-e-requires c = (c.loop-i.invariant.sheet.stands, c.loop-i-test.true)

pub add_ref-requires : goal.add_ref-requires
add_ref-requires c = initialiser_countable _ _ _ _ _ c.loop-i.invariant c.loop-i-test.true _ c.initialiser-e.ensures

pub loop-i-preserved : goal.loop-i-preserved
loop-i-preserved c = initialisers_again _ _ _ _ _ c.loop-i.invariant c.loop-i-test.true _ c.initialiser-e.ensures _ _ c.add_ref.ensures

pub returns : goal.returns
returns c = initialisers_done _ _ _ _ _ c.loop-i.invariant c.loop-i-test.false
