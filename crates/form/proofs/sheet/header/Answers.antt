-- `form::sheet::header`: the checks that it has passed, and the one that refuses.
use Rattle.definitions.specs.Limits.{version_1}
use Rattle.form_records.proofs.CheckLists.{pass, stop, pass_last}
use Rattle.form.proofs.HeaderChecks.{over_is}
use Rattle.form.proofs.SheetChecks.{sheet_header_grouped, sheet_length_is, sheet_end_is, flag_is}
use borrow.Author.Tests.{lt-ltb, le-ltb, eq-eqb, ne_eqb}
use mathlib.Core.Bool.{not}
use mathlib.Core.Path.{refl, sym, ap, ◌∙◌}
use native.Mathlib.Omega.{arith}
use Rattle.form.proofs.sheet.header.Goals as goal

pub returns-then-over_limits : goal.returns-then-over_limits
returns-then-over_limits c = sym (sheet_header_grouped _ _ c.requires ∙ stop _ _ _ (sym c.over_limits.ensures ∙ c.if-over_limits.true))

pub overflow_add-at : goal.overflow_add-at
unfolding version_1
overflow_add-at c = omega (arith, c.requires.begun, c.requires.small)

pub get32-requires : goal.get32-requires
get32-requires c = omega (arith, c.requires.begun)

pub overflow_add-at-2 : goal.overflow_add-at-2
unfolding version_1
overflow_add-at-2 c = omega (arith, c.requires.begun, c.requires.small)

pub returns-then-at-get32 : goal.returns-then-at-get32
returns-then-at-get32 c = sym (sheet_header_grouped _ _ c.requires
    ∙ (pass _ _ _ (sym c.over_limits.ensures ∙ c.if-over_limits.false)
    ∙ stop _ _ _ (ap not (sheet_length_is _ _ c.requires _ c.get32.ensures ∙ ne_eqb _ _ c.if-at-get32.true))))

pub returns-then-m-s : goal.returns-then-m-s
returns-then-m-s c = sym (sheet_header_grouped _ _ c.requires
    ∙ (pass _ _ _ (sym c.over_limits.ensures ∙ c.if-over_limits.false)
    ∙ (pass _ _ _ (ap not (sheet_length_is _ _ c.requires _ c.get32.ensures ∙ eq-eqb _ _ c.if-at-get32.false))
    ∙ stop _ _ _ (sheet_end_is _ _ c.requires _ c.get32.ensures c.if-at-get32.false ∙ lt-ltb _ _ c.if-m-s.true))))

pub overflow_add-at-3 : goal.overflow_add-at-3
unfolding version_1
overflow_add-at-3 c = omega (arith, c.requires.begun, c.requires.small)

pub get8-requires : goal.get8-requires
get8-requires c = omega (arith, c.requires.begun)

pub returns-then-get8-gt-CONTROL_FLOW_CHECKED : goal.returns-then-get8-gt-CONTROL_FLOW_CHECKED
returns-then-get8-gt-CONTROL_FLOW_CHECKED c = sym (sheet_header_grouped _ _ c.requires
    ∙ (pass _ _ _ (sym c.over_limits.ensures ∙ c.if-over_limits.false)
    ∙ (pass _ _ _ (ap not (sheet_length_is _ _ c.requires _ c.get32.ensures ∙ eq-eqb _ _ c.if-at-get32.false))
    ∙ (pass _ _ _ (sheet_end_is _ _ c.requires _ c.get32.ensures c.if-at-get32.false ∙ le-ltb _ _ c.if-m-s.false)
    ∙ stop _ _ _ (over_is _ _ _ _ _ refl (flag_is _ _ c.requires _ c.get8.ensures) (lt-ltb _ _ c.if-get8-gt-CONTROL_FLOW_CHECKED.true))))))

pub returns : goal.returns
returns c = sym (sheet_header_grouped _ _ c.requires
    ∙ (pass _ _ _ (sym c.over_limits.ensures ∙ c.if-over_limits.false)
    ∙ (pass _ _ _ (ap not (sheet_length_is _ _ c.requires _ c.get32.ensures ∙ eq-eqb _ _ c.if-at-get32.false))
    ∙ (pass _ _ _ (sheet_end_is _ _ c.requires _ c.get32.ensures c.if-at-get32.false ∙ le-ltb _ _ c.if-m-s.false)
    ∙ pass_last _ _ (over_is _ _ _ _ _ refl (flag_is _ _ c.requires _ c.get8.ensures) (le-ltb _ _ c.if-get8-gt-CONTROL_FLOW_CHECKED.false))))))
