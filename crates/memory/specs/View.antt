-- What bytes of working memory stand for: the state of a function that is being analysed (definitions, State).
use Rattle.std.specs.Prelude.{ℕ, ◌+◌, List}
use Rattle.definitions.specs.Bytes.{byte, be16, be32}
use Rattle.definitions.specs.Origin.{origin_from}
use Rattle.definitions.specs.State.{State, Known}
use Rattle.definitions.specs.Report.{records, global_from, r_mixed}
use Rattle.memory.specs.Layout.{uses_at, pairs_at, mixed_at}

-- how much of the memory is in use: the expressions known so far, the expressions and globals that there are, the
-- entries of the two lists
pub record Shape : Type 0 where
  pub known : ℕ
  pub expressions : ℕ
  pub globals : ℕ
  pub pairs : ℕ
  pub mixed : ℕ

-- an expression record at p, without its count; and its count
unfoldable pub known_at : List ℕ → ℕ → Known
known_at w p = record { origin = origin_from (be16 w p); requirements = byte w (p + 2); assignable = global_from (be16 w (p + 7)) }

unfoldable pub count_at : List ℕ → ℕ → ℕ
count_at w p = be32 w (p + 3)

unfoldable pub viewed : Shape → List ℕ → State
viewed h w = record {
  known = records known_at 9 w 0 h.known;
  counts = records count_at 9 w 0 h.expressions;
  uses = records byte 1 w uses_at h.globals;
  lists = record {
    pairs = records r_mixed 6 w pairs_at h.pairs;
    mixed = records r_mixed 6 w mixed_at h.mixed;
  };
}
