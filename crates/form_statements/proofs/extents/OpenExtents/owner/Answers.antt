-- `OpenExtents::owner`: the last extent, or the table's.
use Rattle.form_statements.proofs.ExtentStacks.{last_at}
use Rattle.form_statements.specs.Extents.{at}
use Rattle.form_statements.proofs.extents.OpenExtents.owner.Goals as goal

pub returns : goal.returns
unfolding at
returns c = rw (← c.self.view_is) (last_at _ c.self.inside.depth)
