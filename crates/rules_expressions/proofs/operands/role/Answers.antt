-- The ranges of kinds that the tests come to, against the table (Roles).
use native.Mathlib.Omega.{arith}
use Rattle.rules_expressions.proofs.Roles.{marks_later, marks_base, marks_query, marks_read}
use Rattle.rules_expressions.proofs.operands.role.Goals as goal

pub returns-then-position-ne0 : goal.returns-then-position-ne0
returns-then-position-ne0 c = λ u. marks_later _ u _ c.if-position-ne0.true

pub returns-in-5 : goal.returns-in-5
returns-in-5 c = λ u. marks_base _ u _ _ c.if-position-ne0.false (omega arith) (omega arith) c.empty.ensures

pub returns-in-15 : goal.returns-in-15
returns-in-15 c = λ u. marks_query _ u _ c.if-position-ne0.false (omega arith) (omega arith)

pub returns-in_default : goal.returns-in_default
returns-in_default c = λ u. marks_read _ u _ (λ q. omega arith) (λ q. omega arith) (λ q. omega arith) (λ q. omega arith)

pub returns-in_default-2 : goal.returns-in_default-2
returns-in_default-2 c = λ u. marks_read _ u _ (λ q. omega arith) (λ q. omega arith) (λ q. omega arith) (λ q. omega arith)

pub returns-in_default-3 : goal.returns-in_default-3
returns-in_default-3 c = λ u. marks_read _ u _ (λ q. omega arith) (λ q. omega arith) (λ q. omega arith) (λ q. omega arith)
