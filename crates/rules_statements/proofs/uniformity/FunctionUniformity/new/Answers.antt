use Rattle.vocabulary.specs.Said.{may_return_said, may_kill_said}
use Rattle.definitions.specs.Walk.{nothing}
use Rattle.rules_statements.proofs.uniformity.FunctionUniformity.new.Goals as goal

pub returns : goal.returns
unfolding nothing may_return_said may_kill_said
returns c = rw (c.none.ensures, c.empty.ensures, c.empty-2.ensures)
