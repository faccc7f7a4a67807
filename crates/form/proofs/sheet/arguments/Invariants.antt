use Prim.Native.Nat.{◌≤◌}
use Rattle.definitions.specs.Bytes.{range}
use Rattle.definitions.specs.Checks.{for_each}
use Rattle.definitions.specs.Form as checks
use Rattle.definitions.specs.Module as file
use Rattle.form_records.proofs.StepRuns.{left}
use mathlib.Core.Path.{◌≡◌}
use Rattle.form.proofs.sheet.arguments.Given as goal

abbrev pub invariant-loop-a : goal.invariant-loop-a
invariant-loop-a l = (l.a ≤ l.s.arguments) × (for_each (checks.argument_code l.m l.s.function) (range 0 (file.arguments l.m l.s.function)) ≡ left (checks.argument_code l.m l.s.function) l.a l.s.arguments)
