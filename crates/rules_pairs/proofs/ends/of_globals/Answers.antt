-- Both ends are globals, or one is none.
use Rattle.std.proofs.Common.{rules}
use Rattle.rules_pairs.specs.Said.{pair_said}
use Rattle.definitions.specs.Ends.{both_global}
use Rattle.rules_pairs.proofs.ends.of_globals.Goals as goal

pub returns-then-is_global : goal.returns-then-is_global
unfolding both_global pair_said
returns-then-is_global c = search rules

pub returns-else-is_global : goal.returns-else-is_global
unfolding both_global pair_said
returns-else-is_global c = search rules
