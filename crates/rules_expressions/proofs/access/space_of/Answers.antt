-- Its record names the global, whose space can be read.
use Rattle.definitions.specs.Module.{space}
use mathlib.Core.Path.{◌∙◌, ap}
use Rattle.rules_expressions.proofs.FromForm.{base_space_there}
use Rattle.rules_expressions.proofs.access.space_of.Goals as goal

pub space-requires : goal.space-requires
space-requires c = base_space_there _ _ _ _ c.requires.0 c.requires.1 c.expression_at-y.ensures (c.expression_at-y.ensures.kind_is ∙ c.requires.2)

pub returns : goal.returns
returns c = c.space.ensures ∙ ap (space c.args.m.now) c.expression_at-y.ensures.number_is
