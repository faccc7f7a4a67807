-- Kind by kind, as `trace` goes (Traces).
use native.Mathlib.Omega.{arith}
use mathlib.Core.Path.{refl}
use Rattle.rules_pairs.proofs.Traces.{argument_traced, global_traced, access_traced, neither_traced, has_base}
use Rattle.rules_pairs.proofs.traced.trace.Goals as goal

pub trace_base-requires : goal.trace_base-requires
trace_base-requires c = has_base _ _ _ _ c.expression_at-x.ensures _ refl c.requires _ refl (omega arith) (omega arith)

pub returns-in-1 : goal.returns-in-1
returns-in-1 c = argument_traced _ _ _ _ c.expression_at-x.ensures c.in-1.is

pub returns-in-2 : goal.returns-in-2
returns-in-2 c = global_traced _ _ _ _ c.expression_at-x.ensures c.in-2.is

pub returns-in-5 : goal.returns-in-5
returns-in-5 c = access_traced _ _ _ _ c.expression_at-x.ensures _ (omega arith) (omega arith) c.trace_base.ensures

pub returns-in_default : goal.returns-in_default
returns-in_default c = neither_traced _ _ _ _ c.expression_at-x.ensures (λ h. omega arith) (λ h. omega arith) (λ h. omega arith) (λ h. omega arith)

pub returns-in_default-2 : goal.returns-in_default-2
returns-in_default-2 c = neither_traced _ _ _ _ c.expression_at-x.ensures (λ h. omega arith) (λ h. omega arith) (λ h. omega arith) (λ h. omega arith)
