-- How long the arrays are that have an entry for each of what is limited (01, 1.4): the code's constants of the same
-- names.
use Rattle.std.specs.Prelude.{ℕ}

abbrev pub functions_size : ℕ
functions_size = 64

-- the table, the statements around a statement, and that statement
abbrev pub open_extents_size : ℕ
open_extents_size = 34
