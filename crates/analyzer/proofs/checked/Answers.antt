use native.Mathlib.Omega.{arith}
use Rattle.std.proofs.lemmas.Result.{err_from_is_err_and}
use Rattle.analyzer.proofs.RunEnd.{lent_short_report, lent_short_work, form_refused, form_passed, rules_done, chunk_long, whole_back}
use Rattle.analyzer.proofs.checked.Goals as goal

pub returns-then-report-lt-REPORT : goal.returns-then-report-lt-REPORT
returns-then-report-lt-REPORT c = lent_short_report _ _ _ c.if-report-lt-REPORT.true

pub returns-in_default : goal.returns-in_default
returns-in_default c = lent_short_work _ _ _ c.if-report-lt-REPORT.false c.in_default.ensures.cases

pub process_module-requires : goal.process_module-requires
process_module-requires c = form_passed c.if-report-lt-REPORT.false (omega (arith, chunk_long c.in-Some.ensures.cases)) c.form.ensures c.in_ok-form.was

pub returns-in_err-form : goal.returns-in_err-form
returns-in_err-form c =
    let p = err_from_is_err_and c.from_residual.result c.from_residual.ensures.1 in
    let chunk = c.in-Some.ensures.cases in
    rw (p.1, p.2) (rules_done _ c.if-report-lt-REPORT.false chunk.enough (whole_back chunk (form_refused _ c.form.ensures c.in_err-form.was)))

pub returns : goal.returns
returns c = let chunk = c.in-Some.ensures.cases in rules_done _ c.if-report-lt-REPORT.false chunk.enough (whole_back chunk c.process_module.ensures)
