use Rattle.definitions.specs.Form as checks
use Rattle.form_records.proofs.StepRuns.{left}
use mathlib.Core.Path.{◌≡◌}
use Rattle.form_expressions.proofs.fast.QuickTables.skip_valid.Given as goal

abbrev pub invariant-loop-e : goal.invariant-loop-e
invariant-loop-e l = left (checks.expression_form l.m l.s.function) l.fn.from.0 l.s.expressions ≡ left (checks.expression_form l.m l.s.function) l.e l.s.expressions
