use Rattle.std.proofs.Common.{ap, arith}
use Rattle.std.proofs.lemmas.Grind.{common_steps}
use Rattle.definitions.specs.Walk.{nothing}
use Rattle.rules_statements.specs.Said.{kill_outcome}
use Rattle.rules_statements.proofs.Disruptors.{some_is}
use Rattle.rules_statements.proofs.Flags.{kill_bit, kill_bit_alone}
use Rattle.rules_statements.proofs.statements.kill.Goals as goal

pub returns : goal.returns
unfolding kill_outcome nothing
returns c = grind (arith, common_steps, some_is, kill_bit, kill_bit_alone, ap (λ o. o.origin) c.new.ensures, ap (λ o. o.requirements) c.new.ensures)
