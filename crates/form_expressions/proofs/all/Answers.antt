-- `form_expressions::all`: what is left to check gives the answer of all, past what is skipped and past what is
-- checked.
use Rattle.std.specs.Prelude.{Err}
use Rattle.std.proofs.lemmas.Result.{err_from_is_err_and}
use Rattle.form_records.proofs.StepRuns.{begun, run_refused, run_on}
use Rattle.module.proofs.Places.{bounds, header_room}
use mathlib.Core.Path.{refl, ◌∙◌}
use native.Mathlib.Omega.{arith}
use Rattle.form_expressions.proofs.all.Goals as goal

pub globals-globals-requires : goal.globals-globals-requires
globals-globals-requires c = omega (arith, header_room _ _ c.requires)

pub loop-e-init : goal.loop-e-init
loop-e-init c = (omega arith, begun _ _ _ (bounds _ _ c.requires).laid.expressions_are)

pub returns-in_err-expression : goal.returns-in_err-expression
returns-in_err-expression c =
    let p = err_from_is_err_and c.from_residual.result c.from_residual.ensures.1 in
    rw (p.1, p.2) (run_refused _ _ _ (Err c.in_err-expression.field-0.0) _ _ (c.loop-e.invariant.1 ∙ c.in-Some.ensures.2) c.in-Some.ensures.1 c.in_err-expression.ensures refl)

pub loop-e-preserved : goal.loop-e-preserved
loop-e-preserved c = (omega (arith, c.in-Some.ensures.1), run_on _ _ _ _ _ (c.loop-e.invariant.1 ∙ c.in-Some.ensures.2) c.in-Some.ensures.1 c.expression.ensures c.in_ok-expression.was)
