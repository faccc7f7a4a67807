-- What a store leaves: the bytes l with a number laid over those from `at` on, big-endian as 01, 1.1 has it.
use Rattle.std.specs.Prelude.{ℕ, ◌+◌, ◌/◌, ◌%◌, List, set}

-- v in two bytes
unfoldable pub store16 : List ℕ → ℕ → ℕ → List ℕ
store16 l at v = set (set l at (v / 256)) (at + 1) (v % 256)

-- v in four
unfoldable pub store32 : List ℕ → ℕ → ℕ → List ℕ
store32 l at v = store16 (store16 l at (v / 65536)) (at + 2) (v % 65536)
