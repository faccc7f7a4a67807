-- A record a turn: the turns that are left give the outcome of all (CalleeLists).
use Rattle.std.proofs.lemmas.Result.{err_from_is_err_and}
use Rattle.rules_pairs.proofs.CalleeLists.{turn_start, turn_again, turn_stop, turn_done}
use Rattle.rules_pairs.proofs.calls.take_mixed.Goals as goal

pub loop-i-init : goal.loop-i-init
loop-i-init c = turn_start _ _ _ _ _ _ _ _ c.requires.2

pub take_pair-requires : goal.take_pair-requires
take_pair-requires c = (c.requires.0, rw c.get-p.ensures (c.requires.1.below _ c.loop-i-test.true), c.loop-i.invariant.stand)

pub returns-in_err-lists : goal.returns-in_err-lists
returns-in_err-lists c = let p = err_from_is_err_and c.from_residual.result c.from_residual.ensures.1 in rw (p.1, p.2) (turn_stop _ _ _ _ _ _ _ _ _ _ _ _ _ _ c.loop-i.invariant c.loop-i-test.true c.get-p.ensures c.take_pair.ensures _ c.in_err-lists.was)

pub loop-i-preserved : goal.loop-i-preserved
loop-i-preserved c = turn_again _ _ _ _ _ _ _ _ _ _ _ _ _ _ c.loop-i.invariant c.loop-i-test.true c.get-p.ensures c.take_pair.ensures _ c.in_ok-lists.was

pub returns : goal.returns
returns c = turn_done _ _ _ _ _ _ _ _ _ _ _ c.loop-i.invariant c.loop-i-test.false
