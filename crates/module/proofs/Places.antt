-- What a sheet that stands gives, and that a record is told by its fields.
use Prim.Native.Nat.{ℕ, ◌+◌, ◌*◌, ◌≤◌}
use native.Mathlib.Omega.{arith}
use mathlib.Core.Path.{◌≡◌, sym, ap, ◌∙◌, subst}
use mathlib.Core.List.{List}
use lib.ListN.{length}
use Rattle.definitions.specs.Bytes.{be16}
use Rattle.definitions.specs.Module as file
use Rattle.definitions.specs.Module.{record_at, pool}
use Rattle.module.specs.declared.Sheet.{Sheet}
use Rattle.module.specs.declared.Expression.{Expression}
use Rattle.module.specs.declared.Statement.{Statement}
use Rattle.module.specs.Sheets.{SheetBounds, ValidSheet, IsExpression, IsStatement, expression_of, statement_of}

-- the n bytes at a place lie within a file of bounded length
pub record SheetRoom (m : List ℕ) (at n : ℕ) : Type 0 where
  pub fits : at + n ≤ length m
  pub small : length m ≤ 65536

module _ (m : List ℕ) (s : Sheet) where
  pub bounds : ValidSheet m s → SheetBounds m s
  unfolding ValidSheet
  bounds h = h

  pub stands : SheetBounds m s → ValidSheet m s
  unfolding ValidSheet
  stands h = h

  -- room for its counts
  pub header_room : ValidSheet m s → SheetRoom m s.at 17
  unfolding ValidSheet
  header_room h = omega arith

  -- an operand that was read from the pool is the definitions' operand
  pub pooled_read : ValidSheet m s → {r : ℕ} (p i : ℕ) → i ≡ p → r ≡ be16 m (s.pool + 2 * i) → r ≡ file.pooled m s.function p
  unfolding ValidSheet file.pooled pool record_at
  pooled_read h p i q e =
      let at : s.pool + 2 * i ≡ pool m s.function + 2 * p = omega arith in
      e ∙ ap (be16 m) at

-- a record is told by its fields
pub expression_is : (m : List ℕ) (f e : ℕ) (x : Expression) → IsExpression m f e x → x ≡ expression_of m f e
unfolding expression_of
expression_is m f e x h = λ i. record {
  index = record { 0 = h.index_is i };
  kind = h.kind_is i;
  sub = h.sub_is i;
  number = h.number_is i;
  first = h.first_is i;
  count = h.count_is i;
}

pub statement_is : (m : List ℕ) (f t : ℕ) (x : Statement) → IsStatement m f t x → x ≡ statement_of m f t
unfolding statement_of
statement_is m f t x h = λ i. record {
  index = h.index_is i;
  kind = h.kind_is i;
  sub = h.sub_is i;
  number = h.number_is i;
  end = h.end_is i;
  first = h.first_is i;
  count = h.count_is i;
}

-- and says itself which one it is
pub statement_itself : {m : List ℕ} {f t : ℕ} {x : Statement} → IsStatement m f t x → IsStatement m f x.index x
statement_itself {m} {f} {t} {x} h = subst (λ i. IsStatement m f i x) (sym h.index_is) h
