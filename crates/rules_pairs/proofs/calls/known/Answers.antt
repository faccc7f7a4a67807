-- The search keeps what it has found: the pairs below i are in the list (Known).
use Rattle.memory.specs.Layout.{pairs_at, mixed_at, size}
use native.Mathlib.Omega.{arith}
use borrow.Author.Rules.{rules}
use Rattle.rules_pairs.proofs.Known.{search_start, search_found, in_room}
use Rattle.rules_pairs.proofs.calls.known.Goals as goal
use Rattle.rules_pairs.proofs.calls.known.Goals.{then-same, else-same+else-earlier}

pub loop-search-init : goal.loop-search-init
loop-search-init c = search_start _ _ _ _ _ _ (search rules)

pub overflow_mul-q : goal.overflow_mul-q
unfolding pairs_at mixed_at
overflow_mul-q c = omega (arith, in_room c.loop-search.search.entry c.args.len c.if-search-len.true c.requires.2)

pub overflow_add-q : goal.overflow_add-q
unfolding pairs_at mixed_at
overflow_add-q c = omega (arith, in_room c.loop-search.search.entry c.args.len c.if-search-len.true c.requires.2)

pub same-requires : goal.same-requires
unfolding pairs_at mixed_at size
same-requires c = (let z = in_room c.loop-search.search.entry c.args.len c.if-search-len.true c.requires.2 in search rules)

pub earlier-requires : goal.earlier-requires
unfolding pairs_at mixed_at size
earlier-requires c = (let z = in_room c.loop-search.search.entry c.args.len c.if-search-len.true c.requires.2 in search rules)

pub returns-then-earlier : goal.returns-then-earlier
returns-then-earlier c = c.loop-search.invariant

pub loop-search-preserved : goal.loop-search-preserved
unfolding pairs_at
loop-search-preserved c = elim c.if-same.branch [
  | then-same w ↦ rw w.search-is (search_found _ _ _ _ _ _ _ _ c.loop-search.invariant (search rules) (search rules) (c.same.ensures w.if-same.true))
  | else-same+else-earlier w ↦ rw w.search-is c.loop-search.invariant
]

pub returns-else-search-len : goal.returns-else-search-len
returns-else-search-len c = c.loop-search.invariant

pub returns-after-loop-search : goal.returns-after-loop-search
returns-after-loop-search c = c.loop-search.invariant
