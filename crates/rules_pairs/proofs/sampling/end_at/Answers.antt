-- What the operand traces to, or refusal 7 (Traces).
use Rattle.rules_pairs.proofs.Traces.{operand_ended, no_end, is_global_end, is_argument_end}
use Rattle.rules_pairs.proofs.sampling.end_at.Goals as goal

pub returns-in_default-to : goal.returns-in_default-to
returns-in_default-to c = operand_ended _ _ _ _ _ _ _ c.pooled.ensures c.trace-to.ensures (no_end c.trace-to.result _ _ c.in_default.not-Global c.in_default-to.not-Argument)

pub returns-in_default : goal.returns-in_default
returns-in_default c = operand_ended _ _ _ _ _ _ _ c.pooled.ensures c.trace-to.ensures (is_argument_end _ _ _ _ c.in-Argument.is)

pub returns : goal.returns
returns c = operand_ended _ _ _ _ _ _ _ c.pooled.ensures c.trace-to.ensures (is_global_end _ _ _ _ c.in-Global.is)
