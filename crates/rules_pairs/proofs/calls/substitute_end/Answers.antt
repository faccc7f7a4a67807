-- A global stays; an argument is traced from the operand of its number (Traces).
use native.Mathlib.Omega.{arith}
use Rattle.rules_pairs.proofs.Traces.{carried_global, argument_below, argument_traceable, argument_carried, no_end, is_global_end, is_argument_end}
use Rattle.rules_pairs.proofs.calls.substitute_end.Goals as goal

pub pooled-x-requires : goal.pooled-x-requires
pooled-x-requires c = (c.requires.calling.stands, omega (arith, argument_below _ _ _ _ _ _ c.requires c.in-Argument.is, c.requires.calling.pooled_in))

pub trace-to-requires : goal.trace-to-requires
trace-to-requires c = argument_traceable _ _ _ _ _ _ c.requires c.in-Argument.is _ c.pooled-x.ensures

pub returns-in_default-to : goal.returns-in_default-to
returns-in_default-to c = argument_carried _ _ _ _ _ _ c.requires c.in-Argument.is _ _ _ c.pooled-x.ensures c.trace-to.ensures (no_end c.trace-to.result _ _ c.in_default.not-Global c.in_default-to.not-Argument)

pub returns-in_default : goal.returns-in_default
returns-in_default c = argument_carried _ _ _ _ _ _ c.requires c.in-Argument.is _ _ _ c.pooled-x.ensures c.trace-to.ensures (is_argument_end _ _ _ _ c.in-Argument-to.is)

pub returns-in-Global : goal.returns-in-Global
returns-in-Global c = carried_global _ _ _ _ _ c.in-Global.is

pub returns-in-Global-to : goal.returns-in-Global-to
returns-in-Global-to c = argument_carried _ _ _ _ _ _ c.requires c.in-Argument.is _ _ _ c.pooled-x.ensures c.trace-to.ensures (is_global_end _ _ _ _ c.in-Global-to.is)
