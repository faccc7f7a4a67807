-- The key of a pair from the keys of its ends (PairValues).
use Rattle.rules_pairs.proofs.PairValues.{pair_key}
use Rattle.rules_pairs.proofs.ends.key.Goals as goal

pub returns : goal.returns
returns c = pair_key _ _ _ c.key.ensures c.key-2.ensures
