-- Each case by computing `end_from`.
use borrow.Author.Tests.{eq-eqb, ne_eqb}
use Rattle.definitions.specs.Report.{end_from}
use Rattle.rules_pairs.proofs.ends.GlobalOrArgument.of.Goals as goal

pub returns-then-tag-eq-GLOBAL_TAG : goal.returns-then-tag-eq-GLOBAL_TAG
unfolding end_from
returns-then-tag-eq-GLOBAL_TAG c = simp (eq-eqb _ _ c.if-tag-eq-GLOBAL_TAG.true)

pub returns-else-tag-eq-GLOBAL_TAG : goal.returns-else-tag-eq-GLOBAL_TAG
unfolding end_from
returns-else-tag-eq-GLOBAL_TAG c = simp (ne_eqb _ _ c.if-tag-eq-GLOBAL_TAG.false)
