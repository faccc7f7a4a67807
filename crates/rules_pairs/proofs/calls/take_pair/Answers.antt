-- Both ends, and then the pair enters (CalleeLists).
use Rattle.std.proofs.lemmas.Result.{err_from_is_err_and}
use Rattle.definitions.specs.Pairs.{take_pair}
use Rattle.rules_pairs.proofs.CalleeLists.{image_refused, sampler_refused, both_enter}
use Rattle.rules_pairs.specs.Said.{pair_said}
use Rattle.rules_pairs.proofs.calls.take_pair.Goals as goal

pub substitute_end-requires : goal.substitute_end-requires
unfolding pair_said
substitute_end-requires c = record { calling = c.requires.0; below = c.requires.1.image }

pub substitute_end-requires-2 : goal.substitute_end-requires-2
unfolding pair_said
substitute_end-requires-2 c = record { calling = c.requires.0; below = c.requires.1.sampler }

pub returns-in_err-image : goal.returns-in_err-image
unfolding take_pair pair_said
returns-in_err-image c = let p = err_from_is_err_and c.from_residual.result c.from_residual.ensures.1 in rw (p.1, p.2) (image_refused _ _ _ _ _ _ c.requires.2 c.in_err-image.ensures)

pub returns-in_err-sampler : goal.returns-in_err-sampler
unfolding take_pair pair_said
returns-in_err-sampler c = let p = err_from_is_err_and c.from_residual-in_err-sampler.result c.from_residual-in_err-sampler.ensures.1 in rw (p.1, p.2) (sampler_refused _ _ _ _ _ _ _ c.requires.2 c.in_ok-image.ensures c.in_err-sampler.ensures)

pub returns : goal.returns
unfolding take_pair pair_said
returns c = both_enter _ _ _ _ _ _ _ _ c.in_ok-image.ensures c.in_ok-sampler.ensures c.insert_pair.ensures
