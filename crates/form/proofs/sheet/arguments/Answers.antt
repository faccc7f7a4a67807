-- `form::sheet::arguments`: what is left to check gives the answer of all.
use Rattle.definitions.specs.Form as checks
use Rattle.form_records.proofs.CheckLists.{stop, pass_last}
use Rattle.form_records.proofs.StepRuns.{begun, passed, stopped, run_end}
use Rattle.form.proofs.HeaderChecks.{over_is}
use Rattle.module.proofs.Places.{bounds}
use borrow.Author.Tests.{lt-ltb, le-ltb}
use mathlib.Core.List.{[]}
use mathlib.Core.Path.{refl, sym, ◌∙◌}
use native.Mathlib.Omega.{arith}
use Rattle.form.proofs.sheet.arguments.Goals as goal

pub loop-a-init : goal.loop-a-init
loop-a-init c = (omega arith, begun _ _ _ (bounds _ _ c.requires).laid.arguments_are)

pub argument-requires : goal.argument-requires
argument-requires c = (c.requires, c.loop-a-test.true)

pub returns-then-argument-gt-LAST : goal.returns-then-argument-gt-LAST
unfolding checks.argument_code
returns-then-argument-gt-LAST c = sym (c.loop-a.invariant.1 ∙ stopped _ _ _ _ c.loop-a-test.true (stop _ _ [] (over_is _ _ _ _ _ refl c.argument.ensures (lt-ltb _ _ c.if-argument-gt-LAST.true))))

pub loop-a-preserved : goal.loop-a-preserved
unfolding checks.argument_code
loop-a-preserved c = (omega (arith, c.loop-a-test.true), c.loop-a.invariant.1 ∙ passed _ _ _ c.loop-a-test.true (pass_last _ _ (over_is _ _ _ _ _ refl c.argument.ensures (le-ltb _ _ c.if-argument-gt-LAST.false))))

pub returns : goal.returns
returns c = run_end _ _ _ _ c.loop-a.invariant.1 c.loop-a-test.false
