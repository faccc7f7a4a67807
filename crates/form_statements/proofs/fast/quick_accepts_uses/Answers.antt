-- `fast::quick_accepts_uses`: what each test says of the count, the number and the part.
use Rattle.std.proofs.Common.{rules, ◌∙◌}
use Rattle.form_statements.proofs.QuickStatements.{names_right, other_uses}
use borrow.Author.Tests.{tests}
use Rattle.form_statements.proofs.fast.quick_accepts_uses.Goals as goal

pub returns-then-quick_accepts_number : goal.returns-then-quick_accepts_number
returns-then-quick_accepts_number c =
    λ e.
    let kind_is = c.requires.3 in
    other_uses _ _ _ c.requires.0 (λ k. c.requires.4 (kind_is ∙ k)) (rw (← kind_is, ← c.s_count-count.ensures) (search (rules, tests)))
    (rw (← kind_is, ← c.s_count-count.ensures, ← c.s_number-number.ensures) (names_right _ _ _ _ _ _ c.requires.1 (search (rules, tests))))
    (rw (c.s_first.ensures, c.s_count-count.ensures) at (c.quick_accepts_part.ensures e))
