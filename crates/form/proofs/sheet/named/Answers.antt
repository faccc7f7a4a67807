-- `form::sheet::named`: what is left to check gives the answer of all.
use Rattle.std.proofs.lemmas.Result.{err_from_is_err_and}
use Rattle.form_records.proofs.StepRuns.{begun, run_stopped, run_on, run_end}
use Rattle.form.proofs.SheetChecks.{listed_is}
use Rattle.module.proofs.Places.{bounds}
use mathlib.Core.Path.{◌∙◌}
use native.Mathlib.Omega.{arith}
use Rattle.form.proofs.sheet.named.Goals as goal

pub loop-i-init : goal.loop-i-init
loop-i-init c = (omega arith, begun _ _ _ (bounds _ _ c.requires).laid.named_are)

pub named-requires : goal.named-requires
named-requires c = (c.requires, c.loop-i-test.true)

pub returns-in_err-listed : goal.returns-in_err-listed
returns-in_err-listed c = let p = err_from_is_err_and c.from_residual.result c.from_residual.ensures.1 in rw (p.1, p.2) (run_stopped _ _ _ _ _ c.loop-i.invariant.1 c.loop-i-test.true (c.in_err-listed.ensures ∙ listed_is _ _ _ _ _ (bounds _ _ c.requires).laid c.named.ensures))

pub loop-i-preserved : goal.loop-i-preserved
loop-i-preserved c = (omega (arith, c.loop-i-test.true), run_on _ _ _ _ _ c.loop-i.invariant.1 c.loop-i-test.true (c.listed.ensures ∙ listed_is _ _ _ _ _ (bounds _ _ c.requires).laid c.named.ensures) c.in_ok-listed.was)

pub returns : goal.returns
returns c = run_end _ _ _ _ c.loop-i.invariant.1 c.loop-i-test.false
