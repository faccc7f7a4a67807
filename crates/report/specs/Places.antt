-- Where the sections of a report begin: behind its header (01, 7.1), one after another.
use Rattle.std.specs.Prelude.{ℕ, ◌+◌, List, length, take}
use Rattle.definitions.specs.Summary.{Section}
use Rattle.definitions.specs.Report.{concat_map, section_bytes}
use Rattle.report.specs.Sizes.{header_size}

-- the section of f, by the sections before it
unfoldable pub section_place : List Section → ℕ → ℕ
section_place ys f = header_size + length (concat_map section_bytes (take f ys))
