-- Each end from its tag and its number (PairValues).
use mathlib.Core.Path.{refl}
use Rattle.definitions.specs.Bytes.{byte}
use Rattle.rules_pairs.proofs.PairValues.{got_pair}
use Rattle.rules_pairs.proofs.ends.get.Goals as goal

pub returns : goal.returns
unfolding byte
returns c = got_pair _ _ _ _ _ _ _ _ refl refl c.get16.ensures c.get16-2.ensures c.of.ensures c.of-2.ensures
