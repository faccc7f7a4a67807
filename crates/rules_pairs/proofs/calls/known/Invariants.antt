use Prim.Native.Nat.{◌-◌}
use Rattle.rules_pairs.specs.Known.{KnownResult}
use Rattle.rules_pairs.proofs.calls.known.Given as goal

abbrev pub invariant-loop-search : goal.invariant-loop-search
invariant-loop-search l = KnownResult l.report l.callee.at l.initial.search.pair l.callee.n l.work l.len l.search.pair

abbrev pub decreases-loop-search : goal.decreases-loop-search
decreases-loop-search l = l.len - l.search.entry
