-- `form::form`: the header, the space bytes and the sheets, one after another.
use Rattle.std.proofs.lemmas.Result.{err_from_is_err_and}
use Rattle.form_records.proofs.CheckLists.{refuses}
use Rattle.form_records.proofs.StepRuns.{done, follows}
use Rattle.form.proofs.HeaderChecks.{form_grouped, header_valid}
use mathlib.Core.Path.{sym, ◌∙◌}
use Rattle.form.proofs.form.Goals as goal

pub returns-in_err-header : goal.returns-in_err-header
returns-in_err-header c = let p = err_from_is_err_and c.from_residual.result c.from_residual.ensures.1 in rw (p.1, p.2) (sym (form_grouped _ ∙ refuses _ _ (sym c.in_err-header.ensures)))

pub spaces-requires : goal.spaces-requires
spaces-requires c = header_valid _ (done _ _ c.header.ensures c.in_ok-header.was)

pub returns-in_err-spaces : goal.returns-in_err-spaces
returns-in_err-spaces c = let p = err_from_is_err_and c.from_residual-in_err-spaces.result c.from_residual-in_err-spaces.ensures.1 in rw (p.1, p.2) (sym (form_grouped _ ∙ (follows _ _ _ c.header.ensures c.in_ok-header.was ∙ refuses _ _ (sym c.in_err-spaces.ensures))))

pub sheets-requires : goal.sheets-requires
sheets-requires c = header_valid _ (done _ _ c.header.ensures c.in_ok-header.was)

pub returns : goal.returns
returns c = c.sheets.ensures ∙ sym (form_grouped _ ∙ (follows _ _ _ c.header.ensures c.in_ok-header.was ∙ follows _ _ _ c.spaces.ensures c.in_ok-spaces.was))
