-- What the parts of a run ask and promise (01, 6.3, 6.4, 8.2 and 9): m is the module, report and work the lent bytes before, report' and work'
-- after.
use Rattle.std.specs.Prelude.{ℕ, ◌+◌, ◌≤◌, ◌<◌, List, ◌≡◌, length, Result, Ok, Err}
use Rattle.definitions.specs.Limits.{version_1}
use Rattle.definitions.specs.Checks.{Checked, fine, refused}
use Rattle.definitions.specs.Form.{form}
use Rattle.definitions.specs.Report.{concat_map, section_bytes}
use Rattle.definitions.specs.Analyse.{sections}
use Rattle.definitions.proofs.Reading.{Stands}
use Rattle.vocabulary.specs.Said.{refusal_said}
use Rattle.memory.specs.Layout.{size}
use Rattle.memory.specs.Changes.{table, section_at}
use Rattle.module.specs.declared.Sheet.{Sheet}
use Rattle.report.specs.Places.{section_place}
use Rattle.rules_pairs.specs.States.{callees}
use Rattle.rules_statements.specs.Results.{WalkContext}
use Rattle.vocabulary.specs.declared.refusal.Refusal.{Refusal}
use Rattle.analyzer.specs.Said.{Answer, outcome_said, kept_of}

-- an answer with the lent report beside it tells of this outcome, and the lent slices are as long as they were
pub record RunResult (outcome : Checked (List ℕ)) (report report' work work' : List ℕ) (a : Answer) : Type 0 where
  pub says : outcome_said a report' ≡ outcome
  pub fits : kept_of a ≤ length report'
  pub report_long : length report' ≡ length report
  pub work_long : length work' ≡ length work

-- the rules ask for a module whose form has passed (8.2), and for the memory that 9.2 says
pub record ValidRun (m report work : List ℕ) : Type 0 where
  pub formed : form version_1 m ≡ fine tt
  pub report_room : 65536 ≤ length report
  pub work_room : size ≤ length work

-- the first f functions are done: their sections stand in the report from 9 on, the table of sections says where each begins, and the next
-- begins at `out`
pub record SectionsWritten (m : List ℕ) (f : ℕ) (report work : List ℕ) (out : ℕ) : Type 0 where
  pub by_rules : sections version_1 m f ≡ fine (callees m f report work)
  pub stands : Stands report 9 (concat_map section_bytes (callees m f report work))
  pub places : (g : ℕ) → g < f → section_at (table work) g ≡ section_place (callees m f report work) g
  pub next : out ≡ 9 + length (concat_map section_bytes (callees m f report work))
  pub short : out ≤ 65536

-- or one of them is refused
abbrev pub SectionsAfter : List ℕ → ℕ → List ℕ → List ℕ → Result ℕ Refusal → Type 0
SectionsAfter m f report work (Ok out) = SectionsWritten m f report work out
SectionsAfter m f report work (Err r) = sections version_1 m f ≡ refused (refusal_said r)

pub record WriteResult (m : List ℕ) (f : ℕ) (report report' work' : List ℕ) (r : Result ℕ Refusal) : Type 0 where
  pub after : SectionsAfter m f report' work' r
  pub report_long : length report' ≡ length report
  pub work_long : length work' ≡ size

-- the function whose sheet is s comes next
pub record ValidNext (m : List ℕ) (s : Sheet) (report work : List ℕ) (out : ℕ) : Type 0 where
  pub held : WalkContext m s
  pub long : length work ≡ size
  pub so_far : SectionsWritten m s.function report work out
  pub report_room : 65536 ≤ length report
