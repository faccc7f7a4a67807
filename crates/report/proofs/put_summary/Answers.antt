-- Origin, requirements and may-kill, one behind another.
use mathlib.Core.Path.{◌∙◌}
use Rattle.report.proofs.Writers.{flag_is, summary_put}
use Rattle.report.proofs.put_summary.Goals as goal

pub returns : goal.returns
returns c = summary_put _ _ _ _ _ _ _ (c.from.ensures ∙ flag_is _) c.set16.ensures
