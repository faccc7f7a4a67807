use native.Mathlib.Omega.{arith}
use mathlib.Core.Path.{◌∙◌, ap}
use lib.ListN.{length}
use Prim.Native.Nat.{◌*◌}
use Rattle.memory.specs.Layout.{size, uses_at}
use Rattle.memory.specs.Changes.{begun, zeroed}
use Rattle.memory.proofs.StretchState.{zeros_put, length_zeroed}
use Rattle.memory.proofs.begin.Goals as goal

pub slice_bounds-fill-end-3 : goal.slice_bounds-fill-end-3
unfolding size uses_at
slice_bounds-fill-end-3 c =
    let lines = zeros_put 0 (9 * c.args.expressions) _ _ _ (omega arith) (omega arith) (c.fill.ensures.after (λ y e. e)) in
    omega (arith, ap length lines, length_zeroed)

pub returns : goal.returns
unfolding begun size uses_at
returns c =
    let lines = zeros_put 0 (9 * c.args.expressions) _ _ _ (omega arith) (omega arith) (c.fill.ensures.after (λ y e. e)) in
    let uses = zeros_put _ c.args.globals _ _ _ (omega (arith, ap length lines, length_zeroed)) (omega arith) (c.fill-2.ensures.after (λ y e. e)) in
    let is = uses ∙ ap (zeroed 18432 c.args.globals) lines in
    record { is = is; long = ap length is ∙ length_zeroed _ _ _ ∙ length_zeroed _ _ _ ∙ c.told-work }
