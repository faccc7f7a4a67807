-- A record a turn; pairs that the list has already may be passed over (CalleeLists, Known).
use borrow.Author.Rules.{rules}
use Rattle.std.proofs.lemmas.Result.{err_from_is_err_and}
use Rattle.rules_pairs.proofs.CalleeLists.{turn_start, turn_again, turn_stop, turn_done, stands_then}
use Rattle.rules_pairs.proofs.Known.{turn_skip}
use Rattle.rules_pairs.proofs.calls.take_pairs.Goals as goal

pub known-search-requires : goal.known-search-requires
known-search-requires c = (c.requires.0, search rules, c.requires.1.few_pairs)

pub loop-search-init : goal.loop-search-init
loop-search-init c = turn_skip _ _ _ _ _ _ _ _ 0 _ (turn_start _ _ _ _ _ _ _ _ c.requires.1) c.known-search.ensures

pub insert_pair-requires : goal.insert_pair-requires
insert_pair-requires c = c.loop-search.invariant.stand

pub returns-in_err-lists : goal.returns-in_err-lists
returns-in_err-lists c = let p = err_from_is_err_and c.from_residual.result c.from_residual.ensures.1 in rw (p.1, p.2) (turn_stop _ _ _ _ _ _ _ _ _ _ _ _ _ _ c.loop-search.invariant c.loop-search-test.true c.get_globals-p.ensures c.insert_pair.ensures _ c.in_err-lists.was)

pub known-search-requires-in-loop-search : goal.known-search-requires-in-loop-search
known-search-requires-in-loop-search c = let h = stands_then _ _ _ _ _ c.insert_pair.ensures c.in_ok-lists.was in (c.requires.0, search rules, h.few_pairs)

pub loop-search-smaller : goal.loop-search-smaller
loop-search-smaller c = let h = c.known-search-in-loop-search.ensures.reaches in let k = c.known-search-in-loop-search.ensures.within in search rules

pub loop-search-preserved : goal.loop-search-preserved
loop-search-preserved c = turn_skip _ _ _ _ _ _ _ _ _ _ (turn_again _ _ _ _ _ _ _ _ _ _ _ _ _ _ c.loop-search.invariant c.loop-search-test.true c.get_globals-p.ensures c.insert_pair.ensures _ c.in_ok-lists.was) c.known-search-in-loop-search.ensures

pub returns : goal.returns
returns c = turn_done _ _ _ _ _ _ _ _ _ _ _ c.loop-search.invariant c.loop-search-test.false
