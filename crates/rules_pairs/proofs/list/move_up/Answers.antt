-- A byte a turn, from the end down: what has moved is what `moved` says (MoveUp).
use borrow.Author.Rules.{rules}
use Rattle.rules_pairs.proofs.MoveUp.{move_start, move_again, move_done}
use Rattle.rules_pairs.proofs.list.move_up.Goals as goal

pub loop-i-init : goal.loop-i-init
loop-i-init c = move_start _ _ _ (search rules) (search rules)

pub loop-i-preserved : goal.loop-i-preserved
loop-i-preserved c = move_again _ _ _ _ _ c.loop-i.invariant c.loop-i-test.true

pub returns : goal.returns
returns c = record { is = move_done _ _ _ _ _ c.loop-i.invariant c.loop-i-test.false; long = search rules }
