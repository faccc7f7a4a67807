use mathlib.Core.Path.{◌∙◌}
use Rattle.vocabulary.specs.Said.{may_kill_said}
use Rattle.vocabulary.proofs.Masks.{meets_bit}
use Rattle.vocabulary.proofs.flags.ExitFlags.may_kill.Goals as goal

pub returns : goal.returns
unfolding may_kill_said
returns c = c.intersects.ensures ∙ meets_bit _ 1
