-- Two numbers, read with their tags and written without.
use Rattle.report.proofs.Writers.{pair_put}
use Rattle.report.proofs.put_pair.Goals as goal

pub returns : goal.returns
returns c = pair_put _ _ _ _ _ _ _ _ c.get16-image.ensures c.get16-sampler.ensures c.set16.ensures c.set16-2.ensures
