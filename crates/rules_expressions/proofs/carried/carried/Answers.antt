-- The base's line is read, or nothing is handed on; and it starts with none (CarriedGlobal).
use Rattle.memory.specs.Layout.{size}
use Rattle.memory.proofs.PlainSteps.{assignable_read}
use native.Mathlib.Omega.{arith}
use Rattle.rules_expressions.proofs.CarriedGlobal.{base_handed, none_handed, carries, own_none}
use Rattle.rules_expressions.proofs.FromForm.{base_pooled, base_read, base_earlier, earlier_line}
use Rattle.rules_expressions.proofs.carried.carried.Goals as goal

pub pooled-requires : goal.pooled-requires
pooled-requires c = (c.requires.0.sheet.stands, base_pooled _ _ _ _ c.requires.0 (omega arith) (omega arith))

pub assignable-requires : goal.assignable-requires
unfolding size
assignable-requires c = earlier_line _ _ _ _ c.requires.0 _ _ c.told-work (rw (base_read _ _ _ _ c.requires.0 (omega arith) (omega arith) _ c.pooled.ensures) (base_earlier _ _ _ _ c.requires.0 (omega arith) (omega arith)))

pub returns-in-5 : goal.returns-in-5
returns-in-5 c = λ h q. carries _ _ _ _ c.requires.0 _ h q _ _ (base_handed _ c.args.x.kind _ _ _ (omega arith) (omega arith) (assignable_read _ _ _ c.assignable.ensures) (base_read _ _ _ _ c.requires.0 (omega arith) (omega arith) _ c.pooled.ensures)) (own_none _ _ _ _ c.requires.0.is (λ z. omega (arith, c.requires.1)))

pub returns-in_default : goal.returns-in_default
returns-in_default c = λ h q. carries _ _ _ _ c.requires.0 _ h q _ _ (none_handed c.args.x.kind _ _ (λ q. grind arith) (λ q. grind arith) c.none.ensures) (own_none _ _ _ _ c.requires.0.is (λ z. omega (arith, c.requires.1)))
