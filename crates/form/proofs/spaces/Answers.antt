-- `form::spaces`: what is left to check gives the answer of all.
use Rattle.definitions.specs.Form as checks
use Rattle.form_records.proofs.CheckLists.{stop, pass_last}
use Rattle.form_records.proofs.StepRuns.{begun, passed, stopped, run_end}
use Rattle.form.proofs.HeaderChecks.{over_is}
use borrow.Author.Tests.{lt-ltb, le-ltb}
use mathlib.Core.List.{[]}
use mathlib.Core.Path.{refl, sym, ◌∙◌}
use native.Mathlib.Omega.{arith}
use Rattle.form.proofs.spaces.Goals as goal

pub globals-n-requires : goal.globals-n-requires
globals-n-requires c = c.requires.header

pub loop-g-init : goal.loop-g-init
loop-g-init c = (omega arith, begun _ _ _ c.globals-n.ensures)

pub space-requires : goal.space-requires
space-requires c = omega (arith, c.requires.spaces, c.globals-n.ensures, c.loop-g-test.true)

pub returns-then-space-gt-LAST : goal.returns-then-space-gt-LAST
unfolding checks.space_code
returns-then-space-gt-LAST c = sym (c.loop-g.invariant.1 ∙ stopped _ _ _ _ c.loop-g-test.true (stop _ _ [] (over_is _ _ _ _ _ refl c.space.ensures (lt-ltb _ _ c.if-space-gt-LAST.true))))

pub loop-g-preserved : goal.loop-g-preserved
unfolding checks.space_code
loop-g-preserved c = (omega (arith, c.loop-g-test.true), c.loop-g.invariant.1 ∙ passed _ _ _ c.loop-g-test.true (pass_last _ _ (over_is _ _ _ _ _ refl c.space.ensures (le-ltb _ _ c.if-space-gt-LAST.false))))

pub returns : goal.returns
returns c = run_end _ _ _ _ c.loop-g.invariant.1 c.loop-g-test.false
