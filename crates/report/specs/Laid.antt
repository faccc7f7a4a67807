-- Bytes laid over others from a place on: what a writer leaves.
use Rattle.std.specs.Prelude.{ℕ, ◌≡◌, List, length}
use Rattle.std.proofs.lemmas.List.Edits.{sets}

-- `bytes` one after another from `at` on, the rest of l as it was
unfoldable pub laid : List ℕ → ℕ → List ℕ → List ℕ
laid l at bytes = sets l at bytes

-- what a writer promises of the bytes that it was lent: l before it, l' after it
pub record BytesPut (l l' : List ℕ) (at : ℕ) (bytes : List ℕ) : Type 0 where
  pub is : l' ≡ laid l at bytes
  pub long : length l' ≡ length l
