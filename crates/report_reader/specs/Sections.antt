-- What the code's Header is in the bytes b of a report, and what one part of the code has found out for the next.
use Rattle.std.specs.Prelude.{ℕ, ◌+◌, ◌≤◌, ◌<◌, ◌≡◌, List, length, Ok}
use Rattle.definitions.specs.Limits.{version_1}
use Rattle.definitions.specs.Report.{r_globals, r_functions, r_expressions, r_pair_count, r_mixed_count, r_section_at, r_pairs_at, r_mixed_at, r_entries_at, r_section_end}
use Rattle.report.specs.Sizes.{header_size, section_header_size}
use Rattle.report_reader.specs.Reading.{reading}
use Rattle.report_reader.specs.declared.header.Header.{Header}

-- bytes that are a report of version 1
unfoldable pub IsReport : List ℕ → Type 0
IsReport b = reading version_1 b ≡ Ok tt

-- 7.5 bytes that are few enough for one
abbrev pub ValidLength : List ℕ → Type 0
ValidLength b = length b ≤ 65536

-- a header that has passed
pub record ValidHeader (b : List ℕ) : Type 0 where
  pub header : header_size ≤ length b
  pub small : ValidLength b

-- 7.2 the section of its function, as its header says: how many there are of each part, where each begins, and the end
pub record SectionLayout (b : List ℕ) (h : Header) : Type 0 where
  pub begins : h.at ≡ r_section_at (r_globals b) b h.function
  pub globals_are : h.globals ≡ r_globals b
  pub expressions_are : h.expressions ≡ r_expressions b h.at
  pub pairs_are : h.pairs ≡ r_pair_count b h.at
  pub mixed_are : h.mixed ≡ r_mixed_count b h.at
  pub pairs_begin : h.pairs_at ≡ r_pairs_at (r_globals b) b h.at
  pub mixed_begin : h.mixed_at ≡ r_mixed_at (r_globals b) b h.at
  pub entries_begin : h.expressions_at ≡ r_entries_at (r_globals b) b h.at
  pub ends : h.end ≡ r_section_end (r_globals b) b h.at

-- a place where the section of f begins, and where its header is there
pub record ValidSectionStart (b : List ℕ) (f at : ℕ) : Type 0 where
  pub begins : at ≡ r_section_at (r_globals b) b f
  pub header : at + section_header_size ≤ length b
  pub small : ValidLength b

-- the section there
pub record HeaderResult (b : List ℕ) (f at : ℕ) (h : Header) : Type 0 where
  pub named : h.function ≡ f
  pub placed : h.at ≡ at
  pub layout : SectionLayout b h

-- a section whose header is there
pub record ValidSectionHeader (b : List ℕ) (h : Header) : Type 0 where
  pub layout : SectionLayout b h
  pub header : h.at + section_header_size ≤ length b
  pub small : ValidLength b

-- a section that is there as a whole
pub record ValidSection (b : List ℕ) (h : Header) : Type 0 where
  pub layout : SectionLayout b h
  pub within : h.end ≤ length b
  pub small : ValidLength b

-- a place where the section of a function of a report begins
pub record ValidPlace (b : List ℕ) (f at : ℕ) : Type 0 where
  pub is_report : IsReport b
  pub there : f < r_functions b
  pub begins : at ≡ r_section_at (r_globals b) b f
