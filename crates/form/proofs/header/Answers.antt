-- `form::header`: the checks that it has passed, and the one that refuses.
use Rattle.definitions.specs.Form as checks
use Rattle.definitions.specs.Module as file
use Rattle.form_records.proofs.CheckLists.{pass, stop}
use Rattle.form.proofs.HeaderChecks.{length_field_is, version_is}
use Rattle.form.specs.Groups.{header_form}
use borrow.Author.Tests.{lt-ltb, le-ltb, eq-eqb, ne_eqb}
use mathlib.Core.Bool.{not}
use mathlib.Core.Path.{sym, ap, ◌∙◌}
use Rattle.form.proofs.header.Goals as goal

pub returns-then-m-lt-SPACES : goal.returns-then-m-lt-SPACES
unfolding header_form checks.outer
returns-then-m-lt-SPACES c = sym (stop _ _ _ (lt-ltb _ _ c.if-m-lt-SPACES.true))

pub returns-then-over_file : goal.returns-then-over_file
unfolding header_form checks.outer
returns-then-over_file c = sym (pass _ _ _ (le-ltb _ _ c.if-m-lt-SPACES.false)
    ∙ stop _ _ _ (sym c.over_file.ensures ∙ c.if-over_file.true))

pub returns-then-get32-m : goal.returns-then-get32-m
unfolding header_form checks.outer file.length_field
returns-then-get32-m c = sym (pass _ _ _ (le-ltb _ _ c.if-m-lt-SPACES.false)
    ∙ (pass _ _ _ (sym c.over_file.ensures ∙ c.if-over_file.false)
    ∙ stop _ _ _ (ap not (length_field_is _ _ _ c.get32.ensures ∙ ne_eqb _ _ c.if-get32-m.true))))

pub returns-then-unknown_version : goal.returns-then-unknown_version
unfolding header_form checks.outer file.length_field file.version
returns-then-unknown_version c = sym (pass _ _ _ (le-ltb _ _ c.if-m-lt-SPACES.false)
    ∙ (pass _ _ _ (sym c.over_file.ensures ∙ c.if-over_file.false)
    ∙ (pass _ _ _ (ap not (length_field_is _ _ _ c.get32.ensures ∙ eq-eqb _ _ c.if-get32-m.false))
    ∙ stop _ _ _ (version_is _ _ _ _ c.get8.ensures c.unknown_version.ensures c.if-unknown_version.true))))

pub returns : goal.returns
unfolding header_form checks.outer file.length_field file.version
returns c = c.counts.ensures
    ∙ sym (pass _ _ _ (le-ltb _ _ c.if-m-lt-SPACES.false)
    ∙ (pass _ _ _ (sym c.over_file.ensures ∙ c.if-over_file.false)
    ∙ (pass _ _ _ (ap not (length_field_is _ _ _ c.get32.ensures ∙ eq-eqb _ _ c.if-get32-m.false))
    ∙ pass _ _ _ (version_is _ _ _ _ c.get8.ensures c.unknown_version.ensures c.if-unknown_version.false))))
