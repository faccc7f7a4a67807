use Rattle.form_statements.specs.Extents.{closing}
use Rattle.std.proofs.Common.{length}
use mathlib.Core.Path.{◌≡◌}
use Rattle.form_statements.proofs.extents.OpenExtents.close.Given as goal

abbrev pub invariant-loop-self : goal.invariant-loop-self
invariant-loop-self l = record {
  left : closing l.t l.initial.self.extents l.initial.first ≡ closing l.t l.self.extents l.first;
  table : l.self.table ≡ l.initial.self.table;
}

abbrev pub decreases-loop-self : goal.decreases-loop-self
decreases-loop-self l = length l.self.extents
