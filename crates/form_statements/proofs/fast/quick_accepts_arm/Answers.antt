-- `fast::quick_accepts_arm`: what each test says of an Arm.
use Rattle.std.proofs.Common.{rules, sym, ◌∙◌}
use Rattle.form_statements.proofs.QuickStatements.{arm_under_owner}
use borrow.Author.Tests.{tests, eqb-true}
use Rattle.form_statements.proofs.fast.quick_accepts_arm.Goals as goal

pub returns-then-s_first-eq0 : goal.returns-then-s_first-eq0
returns-then-s_first-eq0 c = λ e. arm_under_owner _ _ _ _ c.requires.0 c.requires.2 (search (rules, tests)) (search (rules, tests)) (search (rules, tests)) (search (rules, tests)) (search (rules, tests))
    (sym c.s_count.ensures ∙ eqb-true _ 0 e)
