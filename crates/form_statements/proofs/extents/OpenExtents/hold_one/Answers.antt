-- `OpenExtents::hold_one`: the last extent holds one more, or the table's.
use Rattle.std.proofs.Common.{arith}
use Rattle.form_statements.proofs.ExtentStacks.{last_at, held_one}
use Rattle.form_statements.specs.Extents.{at}
use lib.Seq.{get_or-set_same, get_or-set_other}
use native.Mathlib.Numerals.{add-one}
use Rattle.form_statements.proofs.extents.OpenExtents.hold_one.Goals as goal

pub overflow_add-self : goal.overflow_add-self
unfolding at
overflow_add-self c = let few = rw (← c.self.view_is, ← last_at _ c.self.inside.depth) at c.requires in omega arith

pub returns : goal.returns
unfolding at
returns c = rw (← c.self.view_is) (held_one _ _ c.self.inside.depth
    (λ i h. rw (get_or-set_other c.self.inside.holds c.self.inside.depth i _ 0 (λ q. omega arith)))
    (rw (get_or-set_same c.self.inside.holds c.self.inside.depth _ 0 (omega (arith, c.self.invariant.holds_long, c.self.invariant.shallow)), add-one)))
