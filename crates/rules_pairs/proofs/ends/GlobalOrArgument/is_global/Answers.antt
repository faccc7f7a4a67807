-- Each case by computing `is_global`.
use Rattle.std.proofs.Common.{rules}
use mathlib.Core.Path.{refl}
use Rattle.definitions.specs.Ends.{is_global}
use Rattle.rules_pairs.proofs.ends.GlobalOrArgument.is_global.Goals as goal

pub returns-in-Global : goal.returns-in-Global
unfolding is_global
returns-in-Global c = search rules

pub returns-in_default : goal.returns-in_default
unfolding is_global
returns-in_default c = rw c.in_default.is refl
