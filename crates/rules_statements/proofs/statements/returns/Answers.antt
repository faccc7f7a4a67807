use Rattle.std.proofs.Common.{ap, arith}
use Rattle.std.proofs.lemmas.Grind.{common_steps}
use Rattle.definitions.specs.Walk.{nothing}
use Rattle.rules_statements.specs.Said.{return_outcome}
use Rattle.rules_statements.proofs.Disruptors.{some_is}
use Rattle.rules_statements.proofs.Flags.{return_bit, return_bit_alone}
use Rattle.rules_statements.proofs.statements.returns.Goals as goal

pub returns : goal.returns
unfolding return_outcome nothing
returns c = grind (arith, common_steps, some_is, return_bit, return_bit_alone, ap (λ o. o.origin) c.new.ensures, ap (λ o. o.requirements) c.new.ensures)
