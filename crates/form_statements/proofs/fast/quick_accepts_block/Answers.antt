-- `fast::quick_accepts_block`: what each test says of one that holds others and is no Arm.
use Rattle.std.proofs.Common.{rules, ◌∙◌}
use Rattle.form_statements.proofs.HolderKinds.{holder_no_emit, holder_no_call}
use Rattle.form_statements.proofs.QuickStatements.{names_none, other_uses, plain_under_owner}
use borrow.Author.Tests.{tests, ne_eqb}
use Rattle.form_statements.proofs.fast.quick_accepts_block.Goals as goal

pub returns-then-takes : goal.returns-then-takes
returns-then-takes c =
    λ e.
    let h = c.requires.0 in
    plain_under_owner _ _ _ _ (ne_eqb _ 11 (λ k. c.requires.2 (h.kind_is ∙ k))) (search (rules, tests)) (search (rules, tests))
    (other_uses _ _ _ h.sheet_stands (λ k. holder_no_emit _ c.requires.1 (h.kind_is ∙ k)) (rw (← h.kind_is, ← c.s_count-count.ensures) (search (rules, tests)))
    (names_none _ _ _ _ _ (λ k. holder_no_call _ c.requires.1 (h.kind_is ∙ k)) (search (rules, tests)))
    (rw (c.s_first.ensures, c.s_count-count.ensures) at (c.quick_accepts_part.ensures e)))
