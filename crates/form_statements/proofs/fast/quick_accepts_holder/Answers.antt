-- `fast::quick_accepts_holder`: its end, and then what is found of it under its owner.
use Rattle.form_statements.proofs.QuickStatements.{holder_passes}
use Rattle.form_statements.proofs.fast.quick_accepts_holder.Goals as goal

pub returns-then-kind-eq-ARM : goal.returns-then-kind-eq-ARM
returns-then-kind-eq-ARM c = λ e. holder_passes _ _ _ _ _ _ _ c.requires.0 c.requires.1 c.requires.2 c.if-end-t.false c.requires.3 c.if-owner-end.false (c.quick_accepts_arm.ensures e)

pub returns-else-kind-eq-ARM : goal.returns-else-kind-eq-ARM
returns-else-kind-eq-ARM c = λ e. holder_passes _ _ _ _ _ _ _ c.requires.0 c.requires.1 c.requires.2 c.if-end-t.false c.requires.3 c.if-owner-end.false (c.quick_accepts_block.ensures e)
