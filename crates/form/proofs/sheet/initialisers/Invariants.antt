use Prim.Native.Nat.{◌≤◌}
use Rattle.definitions.specs.Bytes.{range}
use Rattle.definitions.specs.Checks.{for_each}
use Rattle.definitions.specs.Form as checks
use Rattle.definitions.specs.Module as file
use Rattle.form_records.proofs.StepRuns.{left}
use mathlib.Core.Path.{◌≡◌}
use Rattle.form.proofs.sheet.initialisers.Given as goal

abbrev pub invariant-loop-i : goal.invariant-loop-i
invariant-loop-i l = (l.i ≤ l.s.initialisers) × (for_each (checks.listed_form l.m l.s.function (file.initialiser l.m l.s.function)) (range 0 (file.initialisers l.m l.s.function)) ≡ left (checks.listed_form l.m l.s.function (file.initialiser l.m l.s.function)) l.i l.s.initialisers)
