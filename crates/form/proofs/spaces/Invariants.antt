use Prim.Native.Nat.{◌≤◌}
use Rattle.definitions.specs.Bytes.{range}
use Rattle.definitions.specs.Checks.{for_each}
use Rattle.definitions.specs.Form as checks
use Rattle.definitions.specs.Module as file
use Rattle.form_records.proofs.StepRuns.{left}
use mathlib.Core.Path.{◌≡◌}
use Rattle.form.proofs.spaces.Given as goal

abbrev pub invariant-loop-g : goal.invariant-loop-g
invariant-loop-g l = (l.g ≤ l.n) × (for_each (checks.space_code l.m) (range 0 (file.globals l.m)) ≡ left (checks.space_code l.m) l.g l.n)
