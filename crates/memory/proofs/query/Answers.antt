-- By the two tests.
use Rattle.std.proofs.Common.{arith}
use Rattle.std.proofs.lemmas.Grind.{common_steps}
use Rattle.std.proofs.lemmas.Bool.Decides.{nat_tests}
use Rattle.definitions.specs.Bytes.{byte}
use Rattle.definitions.specs.Codes.{QUERY}
use Rattle.memory.specs.Layout.{uses_at, pairs_at, size}
use Rattle.memory.specs.Changes.{with_query}
use Rattle.memory.proofs.query.Goals as goal

pub returns-then-work-at-eq0 : goal.returns-then-work-at-eq0
unfolding uses_at pairs_at size byte QUERY with_query
returns-then-work-at-eq0 c = grind (arith, common_steps, nat_tests)

pub returns-else-at-lt-PAIRS : goal.returns-else-at-lt-PAIRS
unfolding uses_at pairs_at size byte with_query
returns-else-at-lt-PAIRS c = grind (arith, common_steps, nat_tests)
