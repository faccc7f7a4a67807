-- `form::sheets`: the sheets that have passed, where the next begins, and the numbers of arguments so far.
use Rattle.definitions.specs.Limits.{version_1}
use Rattle.std.proofs.lemmas.Result.{err_from_is_err_and}
use Rattle.form_records.proofs.CheckLists.{stop, pass_last}
use Rattle.form_records.proofs.StepRuns.{done}
use Rattle.form.proofs.SheetLoop.{sheets_begun, left_over_is, sheet_short, sheet_refused, sheet_start, counts_valid, sheet_turn}
use borrow.Author.Tests.{lt-ltb, le-ltb}
use mathlib.Core.List.{[]}
use mathlib.Core.Path.{refl, sym, ◌∙◌}
use native.Mathlib.Omega.{arith}
use Rattle.form.proofs.sheets.Goals as goal

pub functions-n-requires : goal.functions-n-requires
functions-n-requires c = c.requires.header

pub globals-requires : goal.globals-requires
globals-requires c = c.requires.header

pub loop-f-init : goal.loop-f-init
loop-f-init c = sheets_begun _ _ _ _ c.requires c.functions-n.ensures (omega (arith, c.from-at.ensures, c.globals.ensures)) refl

pub overflow_add-at-in-loop-f : goal.overflow_add-at-in-loop-f
unfolding version_1
overflow_add-at-in-loop-f c = omega (arith, c.loop-f.invariant.within, c.requires.small)

pub returns-then-m-at : goal.returns-then-m-at
returns-then-m-at c = sym (sheet_short _ _ _ _ _ c.loop-f.invariant c.loop-f-test.true c.if-m-at.true)

pub sheet_at-s-requires : goal.sheet_at-s-requires
unfolding version_1
sheet_at-s-requires c = (c.loop-f.invariant.begins, c.if-m-at.false, c.requires.small)

pub check_sheet-requires : goal.check_sheet-requires
check_sheet-requires c = (
  sheet_start _ _ _ _ _ c.loop-f.invariant c.sheet_at-s.result c.requires c.sheet_at-s.ensures.0 c.sheet_at-s.ensures.1 c.if-m-at.false,
  counts_valid _ _ _ _ _ c.loop-f.invariant c.sheet_at-s.result c.requires c.sheet_at-s.ensures.0 c.loop-f-test.true,
)

pub returns-in_err-check_sheet : goal.returns-in_err-check_sheet
returns-in_err-check_sheet c =
    let p = err_from_is_err_and c.from_residual.result c.from_residual.ensures.1 in
    rw (p.1, p.2) (sym (sheet_refused _ _ _ _ _ c.loop-f.invariant c.sheet_at-s.result c.requires c.sheet_at-s.ensures.0 _ c.loop-f-test.true (sym c.in_err-check_sheet.ensures)))

pub bounds-argument_counts-from : goal.bounds-argument_counts-from
unfolding version_1
bounds-argument_counts-from c = omega (arith, c.from.ensures, c.loop-f-test.true, c.functions-n.ensures, c.requires.few_functions, c.loop-f.invariant.long)

pub loop-f-preserved : goal.loop-f-preserved
loop-f-preserved c = sheet_turn _ _ _ _ _ c.loop-f.invariant c.sheet_at-s.result c.requires c.sheet_at-s.ensures.0 _ c.from.ensures c.loop-f-test.true
    (sheet_start _ _ _ _ _ c.loop-f.invariant c.sheet_at-s.result c.requires c.sheet_at-s.ensures.0 c.sheet_at-s.ensures.1 c.if-m-at.false)
    (done _ _ c.check_sheet.ensures c.in_ok-check_sheet.was)

pub returns-then-at-m : goal.returns-then-at-m
returns-then-at-m c = sym (left_over_is _ _ _ _ _ c.loop-f.invariant c.loop-f-test.false ∙ stop _ _ [] (lt-ltb _ _ c.if-at-m.true))

pub returns : goal.returns
returns c = sym (left_over_is _ _ _ _ _ c.loop-f.invariant c.loop-f-test.false ∙ pass_last _ _ (le-ltb _ _ c.if-at-m.false))
