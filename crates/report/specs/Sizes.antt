-- How long the parts of a report are (01, 7.1, 7.2, 7.4).
use Rattle.std.specs.Prelude.{ℕ, ◌+◌, ◌*◌, ◌<◌}

abbrev pub header_size : ℕ
header_size = 9

abbrev pub section_header_size : ℕ
section_header_size = 10

-- a pair, a mixed pair, an expression
abbrev pub pair_size : ℕ
pair_size = 4

abbrev pub mixed_size : ℕ
mixed_size = 6

abbrev pub entry_size : ℕ
entry_size = 9

-- a section with these counts
abbrev pub section_size : ℕ → ℕ → ℕ → ℕ → ℕ
section_size globals expressions pairs mixed =
    section_header_size + globals + pair_size * pairs + mixed_size * mixed + entry_size * expressions

-- a place that a usize can hold
abbrev pub ValidPlace : ℕ → Type 0
ValidPlace p = p < 18446744073709551616
