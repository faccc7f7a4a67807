-- `exact::operands`: no operands are fine; of others the two tests say what the definitions' do.
use Rattle.form_records.proofs.OperandScans.{has_none, with_some}
use Rattle.form_statements.specs.Operands.{absent_at, unknown_at}
use Rattle.std.proofs.Common.{rules}
use borrow.Author.Tests.{tests}
use mathlib.Core.Path.{◌∙◌}
use Rattle.form_statements.proofs.exact.operands.Goals as goal

pub returns-then-x-eq0 : goal.returns-then-x-eq0
returns-then-x-eq0 c = has_none _ _ _ _ c.if-x-eq0.true

pub returns : goal.returns
unfolding absent_at unknown_at
returns c =
    let m = c.args.m.now in
    let f = c.args.s.function in
    c.operands.ensures (absent_at m f c.args.x) (unknown_at m f c.args.s.expressions c.args.x)
    (λ j o b h is post. rw (← is) (search (rules, tests)))
    (λ j o b h is post. rw (← is) (search (rules, tests)))
    ∙ with_some _ _ _ _ c.if-x-eq0.false
