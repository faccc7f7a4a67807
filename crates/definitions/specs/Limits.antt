-- 01, 1.3, 1.4 and 9.2: the limits, as one record. All that mentions a limit takes the record, and version 1's is a value of it.
use Rattle.std.specs.Prelude.{ℕ, ◌≤◌}
use Rattle.std.proofs.Common.{lit≤}

pub record Limits : Type 0 where
  -- the version byte of module and report
  pub version : ℕ
  -- bytes of a module file
  pub file : ℕ
  pub globals : ℕ
  pub functions : ℕ
  -- the six parts of a sheet
  pub arguments : ℕ
  pub expressions : ℕ
  pub operands : ℕ
  pub statements : ℕ
  pub initialisers : ℕ
  pub named : ℕ
  -- statements around a statement
  pub depth : ℕ
  -- entries in each pair list
  pub pairs : ℕ
  -- bytes of report
  pub report : ℕ
  -- bytes of working memory: its published size
  pub work : ℕ

-- 65,536 bytes in all, 256 globals, 64 functions, the six of 1.3, 32 statements around a statement, 256 entries in each pair list,
-- 65,536 bytes of report
unfoldable pub version_1 : Limits
version_1 = record {
  version = 1;
  file = 65536;
  globals = 256;
  functions = 64;
  arguments = 64;
  expressions = 2048;
  operands = 8192;
  statements = 1024;
  initialisers = 512;
  named = 512;
  depth = 32;
  pairs = 256;
  report = 65536;
  work = 22016;
}

-- What the report's form asks of limits: 65535 stands for no expression and no global, so it is the number of none; and the report's
-- header has room.
pub record Sound (L : Limits) : Type 0 where
  pub expressions_have_numbers : L.expressions ≤ 65535
  pub globals_have_numbers : L.globals ≤ 65535
  pub header_has_room : 9 ≤ L.report

pub version_1_sound : Sound version_1
unfolding version_1
version_1_sound = record { expressions_have_numbers = lit≤ tt; globals_have_numbers = lit≤ tt; header_has_room = lit≤ tt }
