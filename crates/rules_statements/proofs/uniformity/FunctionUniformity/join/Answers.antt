use Rattle.rules_statements.proofs.Flags.{may_return_joined, may_kill_joined}
use Rattle.definitions.specs.Walk.{joined}
use Rattle.rules_statements.proofs.uniformity.FunctionUniformity.join.Goals as goal

pub returns : goal.returns
unfolding joined
returns c = rw (c.or_else.ensures, c.join.ensures, c.join-2.ensures, may_return_joined, may_kill_joined)
