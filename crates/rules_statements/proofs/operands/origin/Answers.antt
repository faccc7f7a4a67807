use Rattle.std.proofs.Common.{◌∙◌}
use Rattle.memory.specs.Layout.{size}
use Rattle.rules_statements.proofs.Records.{no_operand_origin, some_operand_origin, first_in_pool, first_line}
use Rattle.rules_statements.proofs.operands.origin.Goals as goal

pub pooled-requires : goal.pooled-requires
pooled-requires c = (c.requires.0.stands, first_in_pool c.requires.0 c.requires.1 c.if-x-eq0.false)

pub origin-requires : goal.origin-requires
unfolding size
origin-requires c = first_line c.requires.0 c.requires.1 c.if-x-eq0.false c.told-work _ c.pooled.ensures

pub returns-then-x-eq0 : goal.returns-then-x-eq0
returns-then-x-eq0 c = λ l. c.none.ensures ∙ no_operand_origin _ c.requires.1.is c.if-x-eq0.true

pub returns-else-x-eq0 : goal.returns-else-x-eq0
returns-else-x-eq0 c = λ l. some_operand_origin _ c.requires.0 c.requires.1 l c.if-x-eq0.false c.pooled.ensures c.origin.ensures
