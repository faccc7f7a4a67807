use mathlib.Core.Path.{◌∙◌, sym}
use Rattle.memory.specs.Layout.{sections_at}
use Rattle.memory.specs.Changes.{section_at, table}
use Rattle.memory.proofs.PlainSteps.{be32_drop}
use Rattle.memory.proofs.section.Goals as goal

pub returns : goal.returns
unfolding section_at table sections_at
returns c = c.get32.ensures ∙ sym (be32_drop _ _ _)
