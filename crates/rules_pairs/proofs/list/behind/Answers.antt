-- No entry, or the last one is before the pair: so all of them are (LastEntry).
use borrow.Author.Tests.{ltb-true}
use Rattle.rules_pairs.proofs.LastEntry.{behind_none, behind_last}
use Rattle.rules_pairs.proofs.list.behind.Goals as goal

pub returns-then-n-eq0 : goal.returns-then-n-eq0
returns-then-n-eq0 c = λ _. behind_none _ _ _ _ c.if-n-eq0.true

pub returns-else-n-eq0 : goal.returns-else-n-eq0
returns-else-n-eq0 c = λ h. behind_last _ _ _ _ _ c.requires c.if-n-eq0.false c.key_at.ensures (ltb-true _ _ h)
