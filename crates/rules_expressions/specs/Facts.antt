-- What the rules ask: a sheet whose form has passed, a record of it, callees' sections that can be read; and what a
-- line leaves.
use Rattle.std.specs.Prelude.{ℕ, ◌+◌, ◌≤◌, ◌<◌, ◌≡◌, ◌≢◌, List, length}
use Rattle.std.proofs.Math.Option.{Option}
use Rattle.definitions.specs.Limits.{version_1}
use Rattle.definitions.specs.Module.{functions, kind}
use Rattle.definitions.specs.Summary.{Section}
use Rattle.definitions.specs.Expressions.{base, with_expression}
use Rattle.definitions.proofs.Formed.{Formed}
use Rattle.module.specs.declared.Sheet.{Sheet}
use Rattle.module.specs.declared.Expression.{Expression}
use Rattle.module.specs.Sheets.{ValidSheet, IsExpression}
use Rattle.memory.specs.View.{Shape, viewed}
use Rattle.memory.specs.Layout.{size}
use Rattle.memory.specs.Facts.{ValidShape}
use Rattle.memory.specs.Changes.{section_at, table}
use Rattle.memory.proofs.View.{one_more}
use Rattle.report.specs.Sizes.{section_header_size}

-- the sheet s of a module whose form has passed
pub record FormedSheet (m : List ℕ) (s : Sheet) : Type 0 where
  pub stands : ValidSheet m s
  pub formed : Formed version_1 m
  pub present : s.function < functions m

-- the expression e of it, whose record is x
pub record FormedExpression (m : List ℕ) (s : Sheet) (e : ℕ) (x : Expression) : Type 0 where
  pub sheet : FormedSheet m s
  pub there : e < s.expressions
  pub is : IsExpression m s.function e x

-- the sections of all functions before f can be read: each begins where the table t says
abbrev pub ValidSections : List ℕ → List ℕ → ℕ → Type 0
ValidSections b t f = (g : ℕ) → g < f → section_at t g + section_header_size ≤ length b

-- the base b of an Access to a binding array: it is a global, where the space of that decides
pub record ValidAccessBase (m : List ℕ) (s : Sheet) (x : Expression) (b : ℕ) : Type 0 where
  pub is : b ≡ base m s.function x.index.0
  pub there : b < s.expressions
  pub global : x.sub ≢ 1 → x.sub ≢ 2 → kind m s.function b ≡ 2

-- the line of e stands behind those before it, and e carries g: the state is the definitions' state with one
-- expression more
pub record LineResult (m : List ℕ) (f : ℕ) (done : List Section) (w w' : List ℕ) (e : ℕ) (g : Option ℕ) : Type 0 where
  pub long : length w' ≡ size
  pub kept : table w' ≡ table w
  pub state : (h : Shape) → ValidShape h → h.known ≡ e → e < h.expressions
      → viewed (one_more h) w' ≡ with_expression m done f e (viewed h w).lists g (viewed h w)
