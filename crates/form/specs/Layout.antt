-- What one part of the code has found out for the next: a header that has passed, and where a sheet stands.
use Rattle.std.specs.Prelude.{ℕ, ◌+◌, ◌≤◌, List, length}
use Rattle.definitions.specs.Limits.{version_1}
use Rattle.definitions.specs.Module as file
use Rattle.module.specs.declared.Sheet.{Sheet}
use Rattle.module.specs.Sheets.{SheetLayout}

-- a header that has passed (2.1 to 2.3)
pub record ValidHeader (m : List ℕ) : Type 0 where
  pub header : 10 ≤ length m
  pub small : length m ≤ version_1.file
  pub few_functions : file.functions m ≤ version_1.functions
  pub spaces : 10 + file.globals m ≤ length m

-- a sheet whose 17 bytes are there (2.5, 1)
pub record SheetStartLayout (m : List ℕ) (s : Sheet) : Type 0 where
  pub laid : SheetLayout m s
  pub begun : s.at + 17 ≤ length m
  pub small : length m ≤ version_1.file
