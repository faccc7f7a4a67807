-- The working memory (01, 9.2): where each part of what is known of a function stands, and its published size.
use Rattle.std.specs.Prelude.{ℕ}

-- expression records, 9 bytes each and laid out as in the report (01, 7.4), from 0 on; then one use byte a global
unfoldable pub uses_at : ℕ
uses_at = 18432

-- the pairs and the mixed pairs, 6 bytes each and both laid out as a mixed pair of the report
unfoldable pub pairs_at : ℕ
pairs_at = 18688

unfoldable pub mixed_at : ℕ
mixed_at = 20224

-- where each function's section begins in the report, 4 bytes each
unfoldable pub sections_at : ℕ
sections_at = 21760

-- the published size
unfoldable pub size : ℕ
size = 22016
