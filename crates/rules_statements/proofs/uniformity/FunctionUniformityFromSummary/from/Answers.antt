use Rattle.vocabulary.specs.Said.{may_return_said, may_kill_said}
use Rattle.rules_statements.specs.Said.{summary_outcome}
use Rattle.rules_statements.proofs.uniformity.FunctionUniformityFromSummary.from.Goals as goal
use Rattle.rules_statements.proofs.uniformity.FunctionUniformityFromSummary.from.Goals.{then-y, else-y}

pub returns : goal.returns
unfolding summary_outcome may_return_said may_kill_said
returns c = elim c.if-y.branch [
  | then-y w ↦ rw (w.exit-is, w.if-y.true)
  | else-y w ↦ rw (w.exit-is, w.empty-exit.ensures, w.if-y.false)
]
