-- The section that is written of a function (01, 6.2, 7.2): what the outcome of its statements says, and what stands
-- in working memory once all its expressions are known.
use Rattle.std.specs.Prelude.{ℕ, ◌+◌, ◌≤◌, ◌≡◌, Bool, List, map, length}
use Rattle.definitions.specs.Bytes.{range}
use Rattle.definitions.specs.Origin.{Origin}
use Rattle.definitions.specs.State.{State}
use Rattle.definitions.specs.Summary.{Section}
use Rattle.definitions.specs.Analyse.{entry_of}
use Rattle.definitions.specs.Report.{r_origin, r_requirements, r_may_kill}
use Rattle.vocabulary.specs.Said.{origin_said}
use Rattle.memory.specs.Layout.{size}
use Rattle.memory.specs.View.{Shape, viewed}
use Rattle.memory.specs.Facts.{ValidShape}
use Rattle.report.specs.Sizes.{section_size}
use Rattle.report.specs.declared.Summary.{Summary}

-- working memory in which every expression is known
unfoldable pub full_shape : ℕ → ℕ → ℕ → ℕ → Shape
full_shape globals expressions pairs mixed =
    record { known = expressions; expressions = expressions; globals = globals; pairs = pairs; mixed = mixed }

-- the section of a function with so many expressions, by what its statements' outcome says and what is known of it
unfoldable pub section_from : ℕ → Origin → ℕ → Bool → State → Section
section_from expressions origin requirements may_kill s = record {
  summary = record { origin = origin; requirements = requirements; may_kill = may_kill; uses = s.uses; lists = s.lists };
  entries = map (entry_of s) (range 0 expressions);
}

-- of y, and of the working memory w
unfoldable pub written : Summary → List ℕ → ℕ → ℕ → ℕ → ℕ → Section
written y w globals expressions pairs mixed =
    section_from expressions (origin_said y.origin) y.requirements.0 y.may_kill (viewed (full_shape globals expressions pairs mixed) w)

-- what a writer of a section asks for: working memory with room for these counts, and room in the report
pub record ValidSectionRoom (report : List ℕ) (at : ℕ) (work : List ℕ) (globals expressions pairs mixed : ℕ) : Type 0 where
  pub memory : length work ≡ size
  pub counts : ValidShape (full_shape globals expressions pairs mixed)
  pub fits : at + section_size globals expressions pairs mixed ≤ length report

-- what a reader of a section answers
pub record SummaryRead (report : List ℕ) (at : ℕ) (y : Summary) : Type 0 where
  pub origin : origin_said y.origin ≡ r_origin report at
  pub requirements : y.requirements.0 ≡ r_requirements report at
  pub may_kill : y.may_kill ≡ r_may_kill report at
