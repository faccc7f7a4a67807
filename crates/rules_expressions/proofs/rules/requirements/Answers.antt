-- Kind by kind, as `own_requirements` goes (Origins).
use native.Mathlib.Omega.{arith}
use Rattle.rules_expressions.proofs.Origins.{requires_derivative, requires_level, requires_no_level, requires_cooperative, requires_nothing}
use Rattle.rules_expressions.proofs.rules.requirements.Goals as goal

pub returns-in-8 : goal.returns-in-8
returns-in-8 c = requires_derivative _ _ c.in-8.is

pub returns-in-0 : goal.returns-in-0
returns-in-0 c = requires_level _ _ c.in-13.is c.in-0.is

pub returns-in_default-sub : goal.returns-in_default-sub
returns-in_default-sub c = requires_no_level _ _ _ c.in-13.is c.in_default-sub.in_default-sub-own.rest.1 c.empty.ensures

pub returns-in-17 : goal.returns-in-17
returns-in-17 c = requires_cooperative _ _ (omega arith) (omega arith)

pub returns-in_default : goal.returns-in_default
returns-in_default c = requires_nothing _ _ _ (λ q. omega arith) (λ q. omega arith) (λ q. omega arith) (λ q. omega arith) c.empty-in_default.ensures
