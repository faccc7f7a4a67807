-- What insertion does to the bytes of a list of pairs, whose entries are laid out as a mixed pair of the report (01,
-- 7.4): six bytes each.
use Rattle.std.specs.Prelude.{ℕ, ◌+◌, ◌*◌, ◌-◌, List, set, drop}
use Rattle.std.proofs.Math.Seq.{paste}
use Rattle.definitions.specs.Ends.{Pair}
use Rattle.definitions.specs.Report.{tag, end_number, records, r_mixed}
use Rattle.numbers.specs.Stores.{store16}

-- the n pairs of the list that begins at `list`
unfoldable pub listed : List ℕ → ℕ → ℕ → List Pair
listed w list n = records r_mixed 6 w list n

-- the bytes from a up to e, moved up by one entry
unfoldable pub moved : List ℕ → ℕ → ℕ → List ℕ
moved w a e = paste w (a + 6) (drop a w) (e - a)

-- a pair, written at `at`
unfoldable pub stored : List ℕ → ℕ → Pair → List ℕ
stored w at p =
    store16
    (store16 (set (set w at (tag p.image)) (at + 1) (tag p.sampler)) (at + 2) (end_number p.image))
    (at + 4)
    (end_number p.sampler)

-- the entries from i on moved up, and a pair written in their place
unfoldable pub opened : List ℕ → ℕ → ℕ → ℕ → Pair → List ℕ
opened w list n i p = stored (moved w (list + 6 * i) (list + 6 * n)) (list + 6 * i) p
