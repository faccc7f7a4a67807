use Rattle.form.proofs.SheetLoop.{SheetLoopLayout}
use Rattle.form.proofs.sheets.Given as goal

abbrev pub invariant-loop-f : goal.invariant-loop-f
invariant-loop-f l = SheetLoopLayout l.m l.n l.f l.at l.argument_counts
