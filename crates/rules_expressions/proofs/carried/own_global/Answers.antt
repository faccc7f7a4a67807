-- A global, or not (CarriedGlobal).
use Rattle.rules_expressions.proofs.CarriedGlobal.{own_number, own_nothing}
use Rattle.rules_expressions.proofs.carried.own_global.Goals as goal

pub returns-then-x-eq-GLOBAL_VARIABLE : goal.returns-then-x-eq-GLOBAL_VARIABLE
returns-then-x-eq-GLOBAL_VARIABLE c = own_number _ _ _ c.if-x-eq-GLOBAL_VARIABLE.true c.from.ensures

pub returns-else-x-eq-GLOBAL_VARIABLE : goal.returns-else-x-eq-GLOBAL_VARIABLE
returns-else-x-eq-GLOBAL_VARIABLE c = own_nothing _ _ _ c.if-x-eq-GLOBAL_VARIABLE.false c.none.ensures
