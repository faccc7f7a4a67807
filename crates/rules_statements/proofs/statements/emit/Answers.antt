use Rattle.rules_statements.proofs.EmitLoop.{emits_first, emits_more, emits_not, emits_all}
use Rattle.rules_statements.proofs.Records.{emits, line_in}
use Rattle.std.proofs.Common.{arith}
use Rattle.memory.specs.Layout.{size}
use Rattle.rules_statements.proofs.statements.emit.Goals as goal

pub loop-e-init : goal.loop-e-init
loop-e-init c = emits_first c.requires.1.is (emits c.requires.0 c.requires.1 c.requires.2) c.strict-strict.ensures c.empty-all.ensures

pub requirements-one-requires : goal.requirements-one-requires
unfolding size
requirements-one-requires c = line_in c.requires.0 c.told-work _ (omega arith)

pub returns-then-stops : goal.returns-then-stops
returns-then-stops c = emits_not c.loop-e.invariant c.loop-e-test.true c.requirements-one.ensures c.stops.ensures c.if-stops.true

pub loop-e-preserved : goal.loop-e-preserved
loop-e-preserved c = emits_more c.loop-e.invariant c.loop-e-test.true c.requirements-one.ensures c.stops.ensures c.if-stops.false c.join-all.ensures

pub returns : goal.returns
returns c = emits_all c.loop-e.invariant c.loop-e-test.false c.requiring.ensures
