-- Where the parts of a sheet whose form has passed lie: each record within the file, and the next sheet behind the last part.
use Prim.Native.Nat.{ℕ, suc, ◌+◌, ◌*◌, ◌≤◌, ◌<◌}
use native.Mathlib.Omega.{arith}
use mathlib.Core.List.{List}
use mathlib.Core.Path.{◌≡◌}
use lib.ListN.{length}
use Rattle.definitions.specs.Limits.{Limits}
use Rattle.definitions.specs.Module.{sheet, sheet_length, arguments, expressions, operands, statements, initialisers, named, parts_length, record_at, pool, s_record_at}
use Rattle.definitions.proofs.Formed.{SheetFormed}

module _ (L : Limits) (m : List ℕ) (f : ℕ) (formed : SheetFormed L m f) where
  pub sheet_ends : sheet m (suc f) ≡ s_record_at m f (statements m f) + 2 * initialisers m f + 2 * named m f
  unfolding sheet s_record_at pool record_at sheet_length parts_length
  sheet_ends = let a = formed.length_right in omega arith

  pub sheet_within : sheet m (suc f) ≤ length m
  unfolding sheet sheet_length
  sheet_within = formed.all_there

  pub argument_within : (a : ℕ) → a < arguments m f → sheet m f + 17 + a < length m
  unfolding s_record_at pool record_at
  argument_within a h = let x = sheet_ends in let y = sheet_within in omega arith

  pub record_within : (e : ℕ) → e < expressions m f → record_at m f e + 8 ≤ length m
  unfolding s_record_at pool record_at
  record_within e h = let x = sheet_ends in let y = sheet_within in omega arith

  pub pooled_within : (p : ℕ) → p < operands m f → pool m f + 2 * p + 2 ≤ length m
  unfolding s_record_at
  pooled_within p h = let x = sheet_ends in let y = sheet_within in omega arith

  pub s_record_within : (t : ℕ) → t < statements m f → s_record_at m f t + 10 ≤ length m
  unfolding s_record_at
  s_record_within t h = let x = sheet_ends in let y = sheet_within in omega arith

  pub initialiser_within : (i : ℕ) → i < initialisers m f → s_record_at m f (statements m f) + 2 * i + 2 ≤ length m
  initialiser_within i h = let x = sheet_ends in let y = sheet_within in omega arith

  pub named_within : (i : ℕ) → i < named m f → s_record_at m f (statements m f) + 2 * initialisers m f + 2 * i + 2 ≤ length m
  named_within i h = let x = sheet_ends in let y = sheet_within in omega arith
