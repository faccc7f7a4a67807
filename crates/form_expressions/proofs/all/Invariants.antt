use Prim.Native.Nat.{◌≤◌, ◌-◌}
use Rattle.definitions.specs.Bytes.{range}
use Rattle.definitions.specs.Checks.{for_each}
use Rattle.definitions.specs.Form as checks
use Rattle.definitions.specs.Module as file
use Rattle.form_records.proofs.StepRuns.{left}
use mathlib.Core.Path.{◌≡◌}
use Rattle.form_expressions.proofs.all.Given as goal

abbrev pub invariant-loop-e : goal.invariant-loop-e
invariant-loop-e l = (l.from.0 ≤ l.s.expressions) × (for_each (checks.expression_form l.m l.s.function) (range 0 (file.expressions l.m l.s.function)) ≡ left (checks.expression_form l.m l.s.function) l.from.0 l.s.expressions)

abbrev pub decreases-loop-e : goal.decreases-loop-e
decreases-loop-e l = l.s.expressions - l.from.0
