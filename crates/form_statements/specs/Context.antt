-- What is known of a statement that is checked: how many arguments its callees take, what holds it, and how deep it
-- stands.
use Rattle.std.specs.Prelude.{ℕ, ◌≤◌, ◌<◌, ◌≡◌, List, get_or}
use Rattle.definitions.specs.Limits.{version_1}
use Rattle.definitions.specs.Module as file
use Rattle.definitions.specs.Form as checks
use Rattle.module.specs.declared.Sheet.{Sheet}
use Rattle.module.specs.Sheets.{ValidSheet}
use Rattle.limits.specs.Sizes.{functions_size}

-- how many arguments each function below f takes
pub record ValidArgumentCounts (m : List ℕ) (f : ℕ) (counts : List ℕ) : Type 0 where
  pub few : f < functions_size
  pub counts_are : (g : ℕ) → g < f → get_or counts g 0 ≡ file.arguments m g

-- a statement of a sheet, the kind and the end of its owner, and its depth
pub record ValidContext (m : List ℕ) (s : Sheet) (counts : List ℕ) (t kind end depth : ℕ) : Type 0 where
  pub sheet_stands : ValidSheet m s
  pub counts_kept : ValidArgumentCounts m s.function counts
  pub there : t < s.statements
  pub owner_kind_is : kind ≡ checks.owner_kind m s.function t
  pub owner_end_is : end ≡ checks.owner_end m s.function t
  pub depth_is : depth ≡ checks.depth m s.function t

-- what the quick tests know of a statement: its kind and its owner's, and that it stands no deeper than it may
pub record ValidQuickContext (m : List ℕ) (s : Sheet) (t kind owner : ℕ) : Type 0 where
  pub sheet_stands : ValidSheet m s
  pub there : t < s.statements
  pub kind_is : kind ≡ file.s_kind m s.function t
  pub kind_known : kind ≤ 11
  pub owner_kind_is : owner ≡ checks.owner_kind m s.function t
  pub shallow : checks.depth m s.function t ≤ version_1.depth
