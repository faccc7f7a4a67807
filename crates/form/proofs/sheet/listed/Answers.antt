-- `form::sheet::listed`: the checks that it has passed, and the one that refuses.
use Rattle.form_records.proofs.CheckLists.{pass, stop, pass_last}
use Rattle.form.specs.Groups.{listed_at}
use borrow.Author.Tests.{le-leb, lt-leb}
use mathlib.Core.Path.{sym, ◌∙◌}
use Rattle.form.proofs.sheet.listed.Goals as goal

pub returns-then-is_absent : goal.returns-then-is_absent
unfolding listed_at
returns-then-is_absent c = sym (stop _ _ _ (sym c.is_absent.ensures ∙ c.if-is_absent.true))

pub returns-then-s-x : goal.returns-then-s-x
unfolding listed_at
returns-then-s-x c = sym (pass _ _ _ (sym c.is_absent.ensures ∙ c.if-is_absent.false) ∙ stop _ _ _ (le-leb _ _ c.if-s-x.true))

pub returns : goal.returns
unfolding listed_at
returns c = sym (pass _ _ _ (sym c.is_absent.ensures ∙ c.if-is_absent.false) ∙ pass_last _ _ (lt-leb _ _ c.if-s-x.false))
