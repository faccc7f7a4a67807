-- Both ends, and then the pair enters (CalleeLists, Traces).
use Rattle.std.proofs.lemmas.Result.{err_from_is_err_and}
use Rattle.definitions.specs.Pairs.{sample}
use Rattle.rules_pairs.specs.Said.{pair_said}
use Rattle.rules_pairs.proofs.CalleeLists.{image_refused, sampler_refused, both_enter}
use Rattle.rules_pairs.proofs.Traces.{image_operand, sampler_operand, image_is, sampler_is}
use Rattle.rules_pairs.proofs.sampling.sample.Goals as goal

pub end_at-requires : goal.end_at-requires
end_at-requires c = image_operand _ _ _ _ c.requires.0

pub returns-in_err-image : goal.returns-in_err-image
unfolding sample
returns-in_err-image c = let p = err_from_is_err_and c.from_residual.result c.from_residual.ensures.1 in rw (p.1, p.2, image_is _ _ _ _ c.requires.0) (image_refused _ _ _ _ _ _ c.requires.1 c.in_err-image.ensures)

pub end_at-requires-2 : goal.end_at-requires-2
end_at-requires-2 c = sampler_operand _ _ _ _ c.requires.0

pub returns-in_err-sampler : goal.returns-in_err-sampler
unfolding sample
returns-in_err-sampler c = let p = err_from_is_err_and c.from_residual-in_err-sampler.result c.from_residual-in_err-sampler.ensures.1 in rw (p.1, p.2, image_is _ _ _ _ c.requires.0, sampler_is _ _ _ _ c.requires.0) (sampler_refused _ _ _ _ _ _ _ c.requires.1 c.in_ok-image.ensures c.in_err-sampler.ensures)

pub returns : goal.returns
unfolding sample pair_said
returns c = rw (image_is _ _ _ _ c.requires.0, sampler_is _ _ _ _ c.requires.0) (both_enter _ _ _ _ _ _ _ _ c.in_ok-image.ensures c.in_ok-sampler.ensures c.insert_pair.ensures)
