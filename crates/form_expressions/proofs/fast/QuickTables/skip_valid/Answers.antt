-- `fast::QuickTables::skip_valid`: what is left from the first that is not accepted gives the answer of all.
use lib.Dec.{ltb}
use borrow.Author.Tests.{ltb-true, ltb-false}
use Rattle.form_records.proofs.CheckLists.{by_bool}
use Rattle.form_records.proofs.StepRuns.{passed, ended}
use Rattle.module.proofs.Places.{bounds}
use mathlib.Core.Path.{refl, ◌∙◌}
use native.Mathlib.Omega.{arith}
use Rattle.form_expressions.proofs.fast.QuickTables.skip_valid.Goals as goal

pub overflow_add-s : goal.overflow_add-s
overflow_add-s c = omega (arith, bounds _ _ c.requires.0)

pub loop-e-preserved : goal.loop-e-preserved
loop-e-preserved c = c.loop-e.invariant ∙ passed _ _ _ c.loop-e-test.true (c.accepts.ensures c.if-not-accepts.false)

pub returns-then-m-s : goal.returns-then-m-s
returns-then-m-s c = by_bool (ltb c.args.from.0 c.args.s.expressions)
    (λ p. rw (c.then_some.ensures, p) (omega arith, ltb-true _ _ p, refl))
    (λ p. rw (c.then_some.ensures, p) (ended _ _ _ (ltb-false _ _ p)))

pub returns : goal.returns
returns c = c.loop-e.invariant ∙ ended _ _ _ c.loop-e-test.false
