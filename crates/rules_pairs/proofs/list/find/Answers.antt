-- The entries passed so far are before the pair (PairValues); behind the last one it is behind all (LastEntry).
use borrow.Author.Rules.{rules}
use Rattle.rules_pairs.proofs.PairValues.{scan_start, scan_more, scan_here, scan_there, scan_end}
use Rattle.rules_pairs.proofs.LastEntry.{behind_end}
use Rattle.rules_pairs.proofs.list.find.Goals as goal

pub returns-then-behind : goal.returns-then-behind
returns-then-behind c = behind_end _ _ _ _ _ (c.behind.ensures c.if-behind.true) c.key-sought.ensures

pub loop-i-init : goal.loop-i-init
loop-i-init c = scan_start _ _ _ _

pub returns-then-sought-k : goal.returns-then-sought-k
returns-then-sought-k c = scan_here _ _ _ _ _ _ c.loop-i.invariant c.loop-i-test.true c.key_at-k.ensures _ c.key-sought.ensures c.if-sought-k.true

pub returns-then-sought-k-2 : goal.returns-then-sought-k-2
returns-then-sought-k-2 c = scan_there _ _ _ _ _ _ c.loop-i.invariant c.loop-i-test.true c.key_at-k.ensures _ c.key-sought.ensures c.if-sought-k-2.true

pub loop-i-preserved : goal.loop-i-preserved
loop-i-preserved c = scan_more _ _ _ _ _ _ c.loop-i.invariant c.loop-i-test.true c.key_at-k.ensures (search rules) c.if-sought-k-2.false

pub returns : goal.returns
returns c = scan_end _ _ _ _ _ _ c.loop-i.invariant c.loop-i-test.false c.key-sought.ensures
