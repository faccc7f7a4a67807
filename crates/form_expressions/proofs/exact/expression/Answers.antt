-- `exact::expression`: the groups that it has passed, and the one that refuses.
use Rattle.std.proofs.Common.{rules}
use Rattle.std.proofs.lemmas.Result.{err_from_is_err_and}
use Rattle.std.specs.Result.{is_ok}
use Rattle.definitions.specs.Checks.{refusal}
use Rattle.vocabulary.specs.Said.{refusal_said}
use Rattle.form_records.proofs.CheckLists.{pass, stop, pass_last}
use Rattle.form_expressions.proofs.Grouping.{expression_groups, later_groups, fault_number, handed_on, none_at_fault, fields_valid, known_kind}
use mathlib.Core.Path.{◌≡◌, ap, sym, ◌∙◌}
use Rattle.form_expressions.proofs.exact.expression.Goals as goal

pub returns-then-unknown_code : goal.returns-then-unknown_code
returns-then-unknown_code c = sym (expression_groups _ _ _ _ _ c.requires.0 c.requires.2 c.expression_at-x.ensures ∙ stop _ _ _ (sym c.unknown_code.ensures ∙ c.if-unknown_code.true))

pub misshapen-requires : goal.misshapen-requires
misshapen-requires c = known_kind _ (sym c.unknown_code.ensures ∙ c.if-unknown_code.false)

pub returns-then-misshapen : goal.returns-then-misshapen
returns-then-misshapen c = sym (expression_groups _ _ _ _ _ c.requires.0 c.requires.2 c.expression_at-x.ensures
    ∙ (pass _ _ _ (sym c.unknown_code.ensures ∙ c.if-unknown_code.false)
    ∙ stop _ _ _ (sym c.misshapen.ensures ∙ c.if-misshapen.true)))

pub operands-requires : goal.operands-requires
operands-requires c = (c.requires.0, fields_valid _ (sym c.unknown_code.ensures ∙ c.if-unknown_code.false) (sym c.misshapen.ensures ∙ c.if-misshapen.false))

pub returns-in_err-map_err : goal.returns-in_err-map_err
returns-in_err-map_err c =
    let p = err_from_is_err_and c.from_residual.result c.from_residual.ensures.1 in
    rw (p.1, p.2) (
    handed_on _ _ _ _ _ c.map_err.result _ c.map_err.ensures.cases
    (λ x z post. (let told : refusal_said z ≡ refusal (fault_number x) c.args.s.function c.args.e.0 = search rules in told))
    c.in_err-map_err.was c.operands.ensures
    ∙ sym (later_groups _ _ _ _ _ c.requires.0 c.requires.2 c.expression_at-x.ensures (sym c.unknown_code.ensures ∙ c.if-unknown_code.false) (sym c.misshapen.ensures ∙ c.if-misshapen.false)))

pub returns-then-unnamed : goal.returns-then-unnamed
returns-then-unnamed c = sym (later_groups _ _ _ _ _ c.requires.0 c.requires.2 c.expression_at-x.ensures (sym c.unknown_code.ensures ∙ c.if-unknown_code.false) (sym c.misshapen.ensures ∙ c.if-misshapen.false)
    ∙ (none_at_fault _ _ _ _ (ap is_ok (sym c.operands.ensures) ∙ (sym c.map_err.ensures.variant ∙ ap is_ok c.in_ok-map_err.was)) ∙ stop _ _ _ (sym c.unnamed.ensures ∙ c.if-unnamed.true)))

pub returns : goal.returns
returns c = sym (later_groups _ _ _ _ _ c.requires.0 c.requires.2 c.expression_at-x.ensures (sym c.unknown_code.ensures ∙ c.if-unknown_code.false) (sym c.misshapen.ensures ∙ c.if-misshapen.false)
    ∙ (none_at_fault _ _ _ _ (ap is_ok (sym c.operands.ensures) ∙ (sym c.map_err.ensures.variant ∙ ap is_ok c.in_ok-map_err.was)) ∙ pass_last _ _ (sym c.unnamed.ensures ∙ c.if-unnamed.false)))
