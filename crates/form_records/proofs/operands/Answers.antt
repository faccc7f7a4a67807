-- `operands`: a part outside the pool is not looked at; in one within it, what is left to look at, and whether an
-- operand is astray already, give what is found of the whole.
use Rattle.std.proofs.Common.{arith, sym, ap, ◌∙◌, ◌||◌}
use Rattle.form_records.specs.OperandChecks.{found_from}
use Rattle.form_records.proofs.OperandScans.{is_outside, is_inside, scan_stops, scan_goes, scan_astray, scan_fine}
use Rattle.form_records.proofs.operands.Goals as goal

pub returns-then-from : goal.returns-then-from
returns-then-from g c p q _ _ = is_outside _ _ _ _ (omega arith)

pub returns-then-misplaced : goal.returns-then-misplaced
unfolding found_from
returns-then-misplaced g c p q tp tq =
    scan_stops p q _ _ _ _ (c.loop-j.invariant p q tp tq) c.loop-j-test.true (sym (tp _ _ _ c.loop-j-test.true c.pooled-o.ensures c.misplaced.ensures) ∙ c.if-misplaced.true)
    ∙ is_inside _ _ _ _ (omega arith)

pub loop-j-preserved : goal.loop-j-preserved
loop-j-preserved g c p q tp tq =
    scan_goes p q _ _ _ _ _ (c.loop-j.invariant p q tp tq) c.loop-j-test.true
    (sym (tp _ _ _ c.loop-j-test.true c.pooled-o.ensures c.misplaced.ensures) ∙ c.if-misplaced.false)
    (ap (λ b. c.loop-j.some_astray || b) (tq _ _ _ c.loop-j-test.true c.pooled-o.ensures c.astray-some_astray.ensures))

pub returns-then-some_astray : goal.returns-then-some_astray
unfolding found_from
returns-then-some_astray g c p q tp tq =
    scan_astray p q _ _ _ _ (c.loop-j.invariant p q tp tq) c.loop-j-test.false c.if-some_astray.true
    ∙ is_inside _ _ _ _ (omega arith)

pub returns : goal.returns
unfolding found_from
returns g c p q tp tq =
    scan_fine p q _ _ _ _ (c.loop-j.invariant p q tp tq) c.loop-j-test.false c.if-some_astray.false
    ∙ is_inside _ _ _ _ (omega arith)
