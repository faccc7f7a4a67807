-- Two tags, then the numbers as in a pair.
use Rattle.definitions.specs.Bytes.{byte}
use Rattle.report.proofs.Writers.{mixed_put}
use Rattle.report.proofs.put_mixed_pair.Goals as goal

pub returns : goal.returns
unfolding byte
returns c = mixed_put _ _ _ _ _ _ _ c.tag_byte.ensures c.tag_byte-2.ensures c.put_pair.ensures
