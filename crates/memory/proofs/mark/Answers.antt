use Rattle.std.proofs.Common.{arith}
use Rattle.std.proofs.lemmas.Grind.{common_steps}
use Rattle.std.proofs.lemmas.Bool.Decides.{nat_tests}
use lib.ListN.{length-set}
use lib.Seq.{set-get_or}
use lib.Bits.{or_zero_r}
use Rattle.definitions.specs.Bytes.{byte}
use Rattle.definitions.specs.Codes.{join}
use Rattle.memory.specs.Layout.{uses_at, pairs_at, size}
use Rattle.memory.specs.Changes.{with_use}
use Rattle.memory.proofs.mark.Goals as goal

pub returns : goal.returns
unfolding uses_at pairs_at byte join with_use size
returns c = record { is = grind (arith, common_steps, nat_tests, set-get_or, or_zero_r); long = simp length-set c.told-work }
