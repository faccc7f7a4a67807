-- It is its own origin, or has none (Origins).
use mathlib.Core.Path.{sym, ◌∙◌}
use Rattle.rules_expressions.proofs.Origins.{origin_own, origin_none}
use Rattle.rules_expressions.proofs.FromForm.{few}
use Rattle.rules_expressions.proofs.rules.leaf_origin.Goals as goal

pub returns-then-own_origin : goal.returns-then-own_origin
returns-then-own_origin c = origin_own _ _ _ (sym c.if-own_origin.true ∙ c.own_origin.ensures) (few _ _ _ _ c.requires) c.from.ensures

pub returns-else-own_origin : goal.returns-else-own_origin
returns-else-own_origin c = origin_none _ _ _ (sym c.if-own_origin.false ∙ c.own_origin.ensures) c.none.ensures
