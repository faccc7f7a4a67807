-- An answer as one number below 2^64, and back (01, 8.1 and 9.3). From the highest digit to the lowest: the refusal's number (8 bits),
-- function (16), place (16), cause (8) and the cause's number (16). A report is its length, so its highest digit is 0, which no refusal's is.
use Rattle.std.specs.Prelude.{ℕ, ◌+◌, ◌*◌, ◌/◌, ◌%◌, ◌^◌, ◌<◌, ◌≤◌, true, false, List, ◌≡◌, eqb, length, take}
use Rattle.definitions.specs.Limits.{version_1}
use Rattle.definitions.specs.Checks.{Refusal, Checked, fine, refused}
use Rattle.definitions.specs.Answer.{run_outcome, answer, Ran}

unfoldable pub packed_refusal : Refusal → ℕ
packed_refusal r = r.number * 2 ^ 56 + r.function * 2 ^ 40 + r.place * 2 ^ 24 + r.cause * 2 ^ 16 + r.cause_number

unfoldable pub packed : Checked ℕ → ℕ
packed (refused r) = packed_refusal r
packed (fine n) = n

-- what a caller has back by dividing
unfoldable pub unpacked_refusal : ℕ → Refusal
unpacked_refusal x = record {
  number = x / 2 ^ 56;
  function = x / 2 ^ 40 % 2 ^ 16;
  place = x / 2 ^ 24 % 2 ^ 16;
  cause = x / 2 ^ 16 % 2 ^ 8;
  cause_number = x % 2 ^ 16;
}

unfoldable pub unpacked : ℕ → Checked ℕ
unpacked x = elim (eqb (x / 2 ^ 56) 0) [ true ↦ fine x | false ↦ refused (unpacked_refusal x) ]

-- each value of a refusal has room in its digit
pub record Roomy (r : Refusal) : Type 0 where
  pub number_fits : r.number < 2 ^ 8
  pub function_fits : r.function < 2 ^ 16
  pub place_fits : r.place < 2 ^ 16
  pub cause_fits : r.cause < 2 ^ 8
  pub cause_number_fits : r.cause_number < 2 ^ 16

-- so has an answer; a report reaches no refusal's number, and a refusal's number is no report's
abbrev pub RoomFor : Checked ℕ → Type 0
RoomFor (refused r) = Roomy r × (1 ≤ r.number)
RoomFor (fine n) = n < 2 ^ 56

-- x is the refusal r packed, and r has room
pub record Packs (r : Refusal) (x : ℕ) : Type 0 where
  pub is_packed : x ≡ packed_refusal r
  pub roomy : Roomy r

-- that a refusal has room; of a report the definitions say it (01, 7.5)
abbrev pub RefusalRoom : Checked ℕ → Type 0
RefusalRoom (refused r) = RoomFor (refused r)
RefusalRoom (fine n) = Unit {0}

-- x is the answer a packed
pub record PacksAnswer (a : Checked ℕ) (x : ℕ) : Type 0 where
  pub is_packed : x ≡ packed a
  pub refusal_room : RefusalRoom a

-- The promise of a call that returns x: x is the answer of the run, packed; and what x unpacks to, with every lent byte
-- after it, is the run's
pub record PackedRun (m report work : List ℕ) (x : ℕ) (report' work' : List ℕ) : Type 0 where
  pub is_packed : x ≡ packed (answer (run_outcome version_1 m (length report) (length work)))
  pub ran : Ran version_1 m report work (unpacked x) report' work'

-- 9.3 the report that a caller reads: the first x bytes of its own buffer
unfoldable pub report_in : List ℕ → ℕ → List ℕ
report_in buffer x = take x buffer
