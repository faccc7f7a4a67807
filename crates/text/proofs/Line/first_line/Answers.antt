-- A byte more of the first line, and where it ends (AppendedText).
use Rattle.std.proofs.Common.{◌∙◌}
use Rattle.text.proofs.AppendedText.{said_short, first_line_stop, first_line_end, first_line_on, first_line_says}
use Rattle.text.proofs.Line.first_line.Goals as goal

pub loop-b-preserved : goal.loop-b-preserved
loop-b-preserved c =
    let text = c.args.text.now in
    first_line_on text c.loop-b.next c.words-next.result c.loop-b.b-index c.loop-b-test.true c.if-b-eq10.false
    (rw (← c.visible.ensures) c.words-next.ensures.says) ∙ c.loop-b.invariant

pub returns-after-loop-b : goal.returns-after-loop-b
returns-after-loop-b c = record {
  says = first_line_says c.loop-b.next _ _ (first_line_end _ c.loop-b.b-index c.loop-b-test.false) c.loop-b.invariant;
  kept = said_short c.loop-b.next;
}

pub returns-then-b-eq10 : goal.returns-then-b-eq10
returns-then-b-eq10 c = record {
  says = first_line_says c.loop-b.next _ _ (first_line_stop _ c.loop-b.b-index c.loop-b-test.true c.if-b-eq10.true) c.loop-b.invariant;
  kept = said_short c.loop-b.next;
}
