-- An argument comes behind all globals (PairValues).
use native.Mathlib.Omega.{arith}
use Rattle.rules_pairs.proofs.PairValues.{global_keyed, argument_keyed}
use Rattle.rules_pairs.proofs.ends.GlobalOrArgument.key.Goals as goal

pub returns-in-Global : goal.returns-in-Global
returns-in-Global c = global_keyed _ _ _ c.in-Global.is c.from.ensures (omega arith)

pub returns-in-Argument : goal.returns-in-Argument
returns-in-Argument c = argument_keyed _ _ _ c.in-Argument.is c.from-in-Argument.ensures (omega arith)
