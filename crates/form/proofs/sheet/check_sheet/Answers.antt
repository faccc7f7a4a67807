-- `form::sheet::check_sheet`: the parts that have passed, and the one that refuses.
use Rattle.std.proofs.lemmas.Result.{err_from_is_err_and}
use Rattle.form_records.proofs.CheckLists.{refuses}
use Rattle.form_records.proofs.StepRuns.{done, follows}
use Rattle.form.proofs.SheetChecks.{sheet_header_valid, sheet_stands, sheet_grouped}
use mathlib.Core.Path.{sym, ◌∙◌}
use Rattle.form.proofs.sheet.check_sheet.Goals as goal

pub returns-in_err-header : goal.returns-in_err-header
returns-in_err-header c =
    let p = err_from_is_err_and c.from_residual.result c.from_residual.ensures.1 in
    rw (p.1, p.2) (sym (sheet_grouped _ _ ∙ (refuses _ _ (sym c.in_err-header.ensures))))

pub arguments-requires : goal.arguments-requires
arguments-requires c = sheet_stands _ _ c.requires.0.laid (sheet_header_valid _ _ (done _ _ c.header.ensures c.in_ok-header.was)) c.requires.0.small

pub returns-in_err-arguments : goal.returns-in_err-arguments
returns-in_err-arguments c =
    let p = err_from_is_err_and c.from_residual-in_err-arguments.result c.from_residual-in_err-arguments.ensures.1 in
    rw (p.1, p.2) (sym (sheet_grouped _ _ ∙ (follows _ _ _ c.header.ensures c.in_ok-header.was ∙ (refuses _ _ (sym c.in_err-arguments.ensures)))))

pub all-requires : goal.all-requires
all-requires c = sheet_stands _ _ c.requires.0.laid (sheet_header_valid _ _ (done _ _ c.header.ensures c.in_ok-header.was)) c.requires.0.small

pub returns-in_err-all : goal.returns-in_err-all
returns-in_err-all c =
    let p = err_from_is_err_and c.from_residual-in_err-all.result c.from_residual-in_err-all.ensures.1 in
    rw (p.1, p.2) (sym (sheet_grouped _ _ ∙ (follows _ _ _ c.header.ensures c.in_ok-header.was ∙ (follows _ _ _ c.arguments.ensures c.in_ok-arguments.was ∙ (refuses _ _ (sym c.in_err-all.ensures))))))

pub all-requires-2 : goal.all-requires-2
all-requires-2 c = (sheet_stands _ _ c.requires.0.laid (sheet_header_valid _ _ (done _ _ c.header.ensures c.in_ok-header.was)) c.requires.0.small, c.requires.1)

pub returns-in_err-all-2 : goal.returns-in_err-all-2
returns-in_err-all-2 c =
    let p = err_from_is_err_and c.from_residual-in_err-all-2.result c.from_residual-in_err-all-2.ensures.1 in
    rw (p.1, p.2) (sym (sheet_grouped _ _ ∙ (follows _ _ _ c.header.ensures c.in_ok-header.was ∙ (follows _ _ _ c.arguments.ensures c.in_ok-arguments.was ∙ (follows _ _ _ c.all.ensures c.in_ok-all.was ∙ (refuses _ _ (sym c.in_err-all-2.ensures)))))))

pub initialisers-requires : goal.initialisers-requires
initialisers-requires c = sheet_stands _ _ c.requires.0.laid (sheet_header_valid _ _ (done _ _ c.header.ensures c.in_ok-header.was)) c.requires.0.small

pub returns-in_err-initialisers : goal.returns-in_err-initialisers
returns-in_err-initialisers c =
    let p = err_from_is_err_and c.from_residual-in_err-initialisers.result c.from_residual-in_err-initialisers.ensures.1 in
    rw (p.1, p.2) (sym (sheet_grouped _ _ ∙ (follows _ _ _ c.header.ensures c.in_ok-header.was ∙ (follows _ _ _ c.arguments.ensures c.in_ok-arguments.was ∙ (follows _ _ _ c.all.ensures c.in_ok-all.was ∙ (follows _ _ _ c.all-2.ensures c.in_ok-all-2.was ∙ (refuses _ _ (sym c.in_err-initialisers.ensures))))))))

pub named-requires : goal.named-requires
named-requires c = sheet_stands _ _ c.requires.0.laid (sheet_header_valid _ _ (done _ _ c.header.ensures c.in_ok-header.was)) c.requires.0.small

pub returns : goal.returns
returns c = c.named.ensures ∙ sym (sheet_grouped _ _ ∙ (follows _ _ _ c.header.ensures c.in_ok-header.was ∙ (follows _ _ _ c.arguments.ensures c.in_ok-arguments.was ∙ (follows _ _ _ c.all.ensures c.in_ok-all.was ∙ (follows _ _ _ c.all-2.ensures c.in_ok-all-2.was ∙ (follows _ _ _ c.initialisers.ensures c.in_ok-initialisers.was))))))
