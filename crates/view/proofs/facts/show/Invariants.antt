-- Each section begins at the place where the one before it ends.
use Rattle.std.proofs.Common.{◌≡◌}
use Rattle.definitions.specs.Report.{r_globals, r_section_at}
use Rattle.view.proofs.facts.show.Given as goal

abbrev pub invariant-loop-f : goal.invariant-loop-f
invariant-loop-f g l = l.at ≡ r_section_at (r_globals l.b) l.b l.f
