use mathlib.Core.Path.{◌∙◌, ap}
use lib.Dec.{eqb}
use Rattle.std.proofs.lemmas.Nat.Bits.{bit_at_lowest}
use Rattle.vocabulary.specs.Said.{may_return_said}
use Rattle.vocabulary.proofs.Masks.{meets_bit}
use Rattle.vocabulary.proofs.flags.ExitFlags.may_return.Goals as goal

pub returns : goal.returns
unfolding may_return_said
returns c = c.intersects.ensures ∙ meets_bit _ 0 ∙ ap (λ n. eqb n 1) (bit_at_lowest _)
