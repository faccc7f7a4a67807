-- `fast::guarded_earlier`: no upper bit is set where the guard asks for it.
use Rattle.form_expressions.proofs.QuickGuards.{earlier_by_guard}
use native.Mathlib.Omega.{arith}
use Rattle.form_expressions.proofs.fast.guarded_earlier.Goals as goal

pub returns : goal.returns
returns c = λ t. earlier_by_guard _ _ _ _ _ _ c.requires (omega arith) (omega arith) c.joined-q.ensures c.add_guard.ensures t
