-- `OpenExtents::close`: what is left of the stack gives the answer of the whole.
use Rattle.form_statements.proofs.ExtentStacks.{last_at, one_fewer, closing_stops, closing_goes, closing_done}
use Rattle.form_statements.specs.Extents.{at}
use mathlib.Core.Path.{◌∙◌}
use Rattle.form_statements.proofs.extents.OpenExtents.close.Goals as goal

pub loop-self-smaller : goal.loop-self-smaller
loop-self-smaller c = one_fewer _ _ _ c.self.view_is c.if-self-gt0.true

pub loop-self-preserved : goal.loop-self-preserved
unfolding at
loop-self-preserved c =
    let judged_last = rw (c.owner.ensures, ← c.self.view_is, ← last_at _ c.self.inside.depth) at c.judged-first.ensures in
    record {
      left = c.loop-self.invariant.left ∙ rw (← c.self.view_is) (closing_goes _ _ _ _ _ c.if-self-gt0.true c.loop-self-test.true judged_last);
      table = rw (← c.self.view_is) at c.loop-self.invariant.table;
    }

pub returns-else-self-gt0-clause-closed : goal.returns-else-self-gt0-clause-closed
returns-else-self-gt0-clause-closed c = c.loop-self.invariant.left ∙ rw (← c.self.view_is) (closing_done _ _ _ _ c.if-self-gt0.false)

pub returns-after-loop-self-clause-closed : goal.returns-after-loop-self-clause-closed
unfolding at
returns-after-loop-self-clause-closed c = c.loop-self.invariant.left ∙ rw (← c.self.view_is) (closing_stops _ _ _ _ c.loop-self-test.false)
