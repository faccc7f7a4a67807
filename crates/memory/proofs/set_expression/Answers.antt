use Rattle.std.proofs.Common.{arith}
use Rattle.std.proofs.lemmas.Grind.{common_steps}
use Rattle.vocabulary.proofs.Origins.{number_from, global_number_from}
use Rattle.numbers.proofs.Laws.{length_store16}
use Rattle.memory.specs.Changes.{with_line}
use Rattle.memory.proofs.set_expression.Goals as goal

pub returns : goal.returns
unfolding with_line
returns c = rw (number_from c.args.o.0, global_number_from c.args.a.0) (record { is = grind (arith, common_steps); long = grind (arith, common_steps, length_store16) })
