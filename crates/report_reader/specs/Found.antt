-- The section of a function of a report, as the code finds it.
use Rattle.std.specs.Prelude.{ℕ, ◌+◌, ◌≡◌, List}
use Rattle.definitions.specs.Report.{r_globals, r_section_at}
use Rattle.report_reader.specs.declared.section.Section.{Section}

-- the section that stands there, and where the next one begins
pub record SectionResult (b : List ℕ) (f : ℕ) (s : Section) : Type 0 where
  pub bytes_are : s.bytes.now ≡ b
  pub named : s.header.function ≡ f
  pub next : s.header.end ≡ r_section_at (r_globals b) b (f + 1)
