use native.Mathlib.Omega.{arith}
use Prim.Native.Nat.{ℕ}
use mathlib.Core.Path.{◌∙◌, ap}
use lib.ListN.{length}
use Rattle.std.proofs.lemmas.List.Edits.{length-between}
use Rattle.memory.specs.Layout.{size, uses_at}
use Rattle.memory.specs.Changes.{with_uses}
use Rattle.memory.proofs.Loops.{doing_start, doing_again, doing_done}
use Rattle.memory.proofs.PlainSteps.{joins}
use Rattle.memory.proofs.StretchState.{length_with_uses}
use Rattle.memory.proofs.join_uses.Goals as goal

pub loop-i-init : goal.loop-i-init
loop-i-init c = doing_start _ _ _

pub bounds-work-i : goal.bounds-work-i
unfolding uses_at size
bounds-work-i c = omega (arith, length-between {X = ℕ})

pub bounds-work-i-in-loop-i : goal.bounds-work-i-in-loop-i
unfolding uses_at size
bounds-work-i-in-loop-i c = omega (arith, length-between {X = ℕ})

pub loop-i-preserved : goal.loop-i-preserved
loop-i-preserved c = doing_again _ _ _ _ _ _ c.loop-i.invariant (omega (arith, length-between {X = ℕ})) (joins _ _ _ c.args.n _ _ (omega (arith, length-between {X = ℕ})) c.join.ensures)

pub returns : goal.returns
unfolding with_uses size
returns c =
    let is = doing_done _ _ _ _ _ c.loop-i.invariant (omega (arith, length-between {X = ℕ})) in
    record { is = is; long = ap length is ∙ length_with_uses _ _ _ _ ∙ c.told-work }
