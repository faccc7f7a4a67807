-- `OpenExtents::depth`: as many extents as the depth says.
use Rattle.form_statements.proofs.ExtentStacks.{length_stack}
use mathlib.Core.Path.{sym}
use Rattle.form_statements.proofs.extents.OpenExtents.depth.Goals as goal

pub returns : goal.returns
returns c = rw (← c.self.view_is) (sym (length_stack _ c.self.inside.depth))
