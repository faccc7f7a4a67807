-- The base is a global, or it is none (Traces).
use Rattle.rules_pairs.proofs.Traces.{base_global, base_other}
use Rattle.rules_pairs.proofs.traced.trace_base.Goals as goal

pub returns-then-b-eq-GLOBAL_VARIABLE : goal.returns-then-b-eq-GLOBAL_VARIABLE
returns-then-b-eq-GLOBAL_VARIABLE c = base_global _ _ _ _ _ c.pooled-base.ensures c.expression_at-b.ensures c.if-b-eq-GLOBAL_VARIABLE.true

pub returns-else-b-eq-GLOBAL_VARIABLE : goal.returns-else-b-eq-GLOBAL_VARIABLE
returns-else-b-eq-GLOBAL_VARIABLE c = base_other _ _ _ _ _ c.pooled-base.ensures c.expression_at-b.ensures c.if-b-eq-GLOBAL_VARIABLE.false
