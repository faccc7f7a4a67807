use mathlib.Core.Path.{◌∙◌, ap, subst, refl}
use Rattle.fiuraccju_c.specs.Packed.{packed, packed_refusal, Roomy}
use Rattle.fiuraccju_c.proofs.Answers.{numbered}
use Rattle.fiuraccju_c.proofs.of_answer.Goals as goal

pub returns-in-Ok : goal.returns-in-Ok
unfolding packed
returns-in-Ok c = rw c.in-Ok.is (record { is_packed = refl; refusal_room = tt })

pub returns-in-Err : goal.returns-in-Err
unfolding packed
returns-in-Err c = rw c.in-Err.is (record { is_packed = c.pack.ensures.is_packed ∙ ap packed_refusal c.from.ensures; refusal_room = (subst Roomy c.from.ensures c.pack.ensures.roomy, numbered c.in-Err.r) })
