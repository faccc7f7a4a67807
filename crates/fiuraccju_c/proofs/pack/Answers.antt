use Rattle.fiuraccju_c.specs.Packed.{packed_refusal}
use borrow.Author.Rules.{rules}
use Rattle.fiuraccju_c.proofs.pack.Goals as goal

pub returns : goal.returns
unfolding packed_refusal
returns c = search rules
