use Rattle.definitions.specs.Pairs.{enter}
use Rattle.definitions.specs.Report.{r_pair}
use Rattle.vocabulary.specs.Said.{refusal_said}
use Rattle.definitions.specs.Limits.{version_1}
use Prim.Native.Nat.{◌-◌}
use Rattle.rules_pairs.proofs.CalleeLists.{RecordLoop}
use Rattle.rules_pairs.proofs.calls.take_pairs.Given as goal

abbrev pub invariant-loop-search : goal.invariant-loop-search
invariant-loop-search l = RecordLoop (enter version_1 (refusal_said l.full)) r_pair 4 l.report l.callee.at l.callee.n l.initial.work l.initial.lists l.work l.lists l.search.pair

abbrev pub decreases-loop-search : goal.decreases-loop-search
decreases-loop-search l = l.callee.n - l.search.pair
