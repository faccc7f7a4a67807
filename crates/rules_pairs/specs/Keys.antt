-- A number for each pair, so that the order of 4.4 is the order of numbers: tag and number of the image, then of the
-- sampler.
use Rattle.std.specs.Prelude.{ℕ, ◌+◌, ◌*◌, ◌<◌}
use Rattle.definitions.specs.Ends.{End, Pair}
use Rattle.definitions.specs.Report.{tag, end_number}

unfoldable pub end_key : End → ℕ
end_key x = 65536 * tag x + end_number x

unfoldable pub key : Pair → ℕ
key p = 131072 * end_key p.image + end_key p.sampler

-- both numbers have two bytes
pub record SmallNumbers (p : Pair) : Type 0 where
  pub image : end_number p.image < 65536
  pub sampler : end_number p.sampler < 65536
