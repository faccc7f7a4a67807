-- `OpenExtents::new`: no extent but the table's.
use mathlib.Core.Path.{refl}
use Rattle.form_statements.specs.Extents.{at, stack}
use Rattle.form_statements.proofs.extents.OpenExtents.new.Goals as goal

pub returns : goal.returns
unfolding at stack
returns c = refl
