-- The pairs of a callee that the caller's list has already.
use Rattle.std.specs.Prelude.{ℕ, ◌+◌, ◌*◌, ◌≤◌, ◌<◌, List}
use Rattle.definitions.specs.Chains.{Mem}
use Rattle.definitions.specs.Report.{r_pair}
use Rattle.memory.specs.Layout.{pairs_at}
use Rattle.rules_pairs.specs.Bytes.{listed}

-- those from `from` up to r, of the n that stand in b from `at` on, are in the list of k pairs in w
pub record KnownResult (b : List ℕ) (at from n : ℕ) (w : List ℕ) (k r : ℕ) : Type 0 where
  pub reaches : from ≤ r
  pub within : r ≤ n
  pub there : (i : ℕ) → from ≤ i → i < r → Mem (r_pair b (at + 4 * i)) (listed w pairs_at k)
