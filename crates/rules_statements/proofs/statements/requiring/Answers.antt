use Rattle.std.proofs.Common.{ap}
use Rattle.definitions.specs.Walk.{nothing, requiring}
use Rattle.rules_statements.proofs.statements.requiring.Goals as goal

pub returns : goal.returns
unfolding requiring nothing
returns c = rw (ap (λ o. o.origin) c.new.ensures, ap (λ o. o.may_return) c.new.ensures, ap (λ o. o.may_kill) c.new.ensures)
