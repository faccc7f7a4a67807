-- `fast::quick_accepts`: no statement so far is wrong, and the extents that are open are those that the code keeps.
use Rattle.form_statements.proofs.StatementLoop.{quick_begun, quick_context, owner_end_is, owner_few, length_holding, quick_opened, quick_held, loop_ended}
use Rattle.form_statements.specs.Extents.{holding_last}
use Rattle.definitions.specs.Limits.{version_1}
use Rattle.module.proofs.Places.{bounds}
use Rattle.std.proofs.Common.{◌≡◌, ◌+◌, ◌≤◌, length, arith, rules, None, refl, sym, ◌∙◌}
use borrow.Author.Tests.{ltb-false}
use Rattle.form_statements.proofs.fast.quick_accepts.Goals as goal
use Rattle.form_statements.proofs.fast.quick_accepts.Goals.{then-holds_others+else-over_depth+else-not-quick_accepts_holder, else-holds_others+else-not-quick_accepts_leaf}

pub loop-t-init : goal.loop-t-init
loop-t-init c = rw c.new-extents.ensures (quick_begun _ _ _ (bounds _ _ c.requires.0).laid.statements_are)

pub overflow_add-depth : goal.overflow_add-depth
unfolding version_1
overflow_add-depth c = omega (arith, c.loop-t.invariant.shallow)

pub quick_accepts_holder-requires : goal.quick_accepts_holder-requires
quick_accepts_holder-requires c = rw c.owner-owner.ensures (
  quick_context _ _ _ _ _ c.requires.0 c.loop-t-test.true c.loop-t.invariant.loop.extents c.loop-t.invariant.shallow c.s_kind-kind.ensures c.if-kind-gt-LAST.false,
  sym c.if-holds_others.ensures,
  c.s_end-end.ensures,
  owner_end_is _ _ _ _ c.loop-t.invariant.loop.extents,
)

pub hold_one-requires : goal.hold_one-requires
hold_one-requires c = omega (arith, owner_few _ _ _ _ c.loop-t.invariant.loop.extents, (bounds _ _ c.requires.0).few_statements)

pub open-requires : goal.open-requires
unfolding version_1 holding_last
open-requires c = rw (c.hold_one.ensures, length_holding) (omega (arith, c.loop-t.invariant.shallow))

pub quick_accepts_leaf-requires : goal.quick_accepts_leaf-requires
quick_accepts_leaf-requires c = rw c.owner-owner.ensures (
  quick_context _ _ _ _ _ c.requires.0 c.loop-t-test.true c.loop-t.invariant.loop.extents c.loop-t.invariant.shallow c.s_kind-kind.ensures c.if-kind-gt-LAST.false,
  sym c.if-holds_others.ensures,
  c.requires.1,
)

pub hold_one-requires-else-holds_others : goal.hold_one-requires-else-holds_others
hold_one-requires-else-holds_others c = omega (arith, owner_few _ _ _ _ c.loop-t.invariant.loop.extents, (bounds _ _ c.requires.0).few_statements)

pub loop-t-preserved : goal.loop-t-preserved
loop-t-preserved c =
    let none : c.close.result ≡ None = search rules in
    elim c.if-holds_others.branch [
      | then-holds_others+else-over_depth+else-not-quick_accepts_holder w ↦
          let room : length c.loop-t.extents.extents + 1 ≤ version_1.depth = omega (arith, ltb-false _ _ (sym w.if-over_depth.ensures)) in
          quick_opened _ _ _ _ _ _ _ _ c.loop-t.invariant c.loop-t-test.true (w.quick_accepts_holder.ensures w.if-not-quick_accepts_holder.false) w.hold_one.ensures none _ _ _ (w.extents-is ∙ w.open.ensures) c.s_kind-kind.ensures w.s_end-end.ensures
          room c.close.ensures.closed c.close.ensures.table
      | else-holds_others+else-not-quick_accepts_leaf w ↦
          quick_held _ _ _ _ _ _ _ _ c.loop-t.invariant c.loop-t-test.true (w.quick_accepts_leaf.ensures w.if-not-quick_accepts_leaf.false) (w.extents-is ∙ w.hold_one-else-holds_others.ensures) none (rw (← c.s_kind-kind.ensures) (sym w.if-holds_others.ensures)) c.close.ensures.closed c.close.ensures.table
    ]

pub returns : goal.returns
returns c = λ _. loop_ended _ _ _ _ _ _ c.loop-t.invariant.loop c.loop-t-test.false refl
