-- `exact::takes`: the count that the table has is that of the full list.
use mathlib.Core.Path.{ap, ◌∙◌}
use lib.Dec.{eqb}
use lib.ListN.{get_or}
use borrow.Author.Tests.{eq-eqb, ne_eqb}
use Rattle.definitions.specs.Roles as roles
use Rattle.form_expressions.proofs.KindTables.{counts, counts_are}
use Rattle.form_expressions.proofs.exact.takes.Goals as goal

pub returns-then-kind-eq-COMPOSE : goal.returns-then-kind-eq-COMPOSE
unfolding roles.takes
returns-then-kind-eq-COMPOSE c = rw (eq-eqb _ _ c.if-kind-eq-COMPOSE.true)

pub returns-else-kind-eq-COMPOSE : goal.returns-else-kind-eq-COMPOSE
unfolding roles.takes
returns-else-kind-eq-COMPOSE c = rw (ne_eqb _ _ c.if-kind-eq-COMPOSE.false) (ap (eqb c.args.count) (ap (λ i. get_or counts i 0) c.from.ensures ∙ counts_are _ c.requires))
