-- What the code's records are in the module file m. All that reads a sheet asks `ValidSheet` of it.
use Rattle.std.specs.Prelude.{ℕ, ◌+◌, ◌*◌, ◌≤◌, ◌≡◌, List, length}
use Rattle.definitions.specs.Module as file
use Rattle.module.specs.declared.Sheet.{Sheet}
use Rattle.module.specs.declared.Expression.{Expression}
use Rattle.module.specs.declared.Statement.{Statement}

-- 1.3 the sheet of its function, as its counts say: where it begins, how many there are of each part, and where each part begins
pub record SheetLayout (m : List ℕ) (s : Sheet) : Type 0 where
  pub begins : s.at ≡ file.sheet m s.function
  pub arguments_are : s.arguments ≡ file.arguments m s.function
  pub expressions_are : s.expressions ≡ file.expressions m s.function
  pub operands_are : s.operands ≡ file.operands m s.function
  pub statements_are : s.statements ≡ file.statements m s.function
  pub initialisers_are : s.initialisers ≡ file.initialisers m s.function
  pub named_are : s.named ≡ file.named m s.function
  pub records_at : s.records ≡ s.at + 17 + s.arguments
  pub pool_at : s.pool ≡ s.records + 8 * s.expressions
  pub table_at : s.table ≡ s.pool + 2 * s.operands
  pub initials_at : s.initials ≡ s.table + 10 * s.statements
  pub names_at : s.names ≡ s.initials + 2 * s.initialisers
  pub end_at : s.end ≡ s.names + 2 * s.named

-- a sheet that stands within the file, its counts within their limits (1.3, 1.4)
pub record SheetBounds (m : List ℕ) (s : Sheet) : Type 0 where
  pub laid : SheetLayout m s
  pub within : s.end ≤ length m
  pub small : length m ≤ 65536
  pub few_arguments : s.arguments ≤ 64
  pub few_expressions : s.expressions ≤ 2048
  pub few_operands : s.operands ≤ 8192
  pub few_statements : s.statements ≤ 1024
  pub few_initialisers : s.initialisers ≤ 512
  pub few_named : s.named ≤ 512

-- The same, shut, so that what a proof has in hand stays small: proofs/Places has a law for each part that is read.
unfoldable pub ValidSheet : List ℕ → Sheet → Type 0
ValidSheet m s = SheetBounds m s

-- 1.5 the record of the expression e of f
pub record IsExpression (m : List ℕ) (f e : ℕ) (x : Expression) : Type 0 where
  pub index_is : x.index.0 ≡ e
  pub kind_is : x.kind ≡ file.kind m f e
  pub sub_is : x.sub ≡ file.sub m f e
  pub number_is : x.number ≡ file.number m f e
  pub first_is : x.first ≡ file.first_operand m f e
  pub count_is : x.count ≡ file.operand_count m f e

-- 1.6 the record of the statement t of f
pub record IsStatement (m : List ℕ) (f t : ℕ) (x : Statement) : Type 0 where
  pub index_is : x.index ≡ t
  pub kind_is : x.kind ≡ file.s_kind m f t
  pub sub_is : x.sub ≡ file.s_sub m f t
  pub number_is : x.number ≡ file.s_number m f t
  pub end_is : x.end ≡ file.s_end m f t
  pub first_is : x.first ≡ file.s_first m f t
  pub count_is : x.count ≡ file.s_count m f t

-- the records themselves
unfoldable pub expression_of : List ℕ → ℕ → ℕ → Expression
expression_of m f e = record {
  index = record { 0 = e };
  kind = file.kind m f e;
  sub = file.sub m f e;
  number = file.number m f e;
  first = file.first_operand m f e;
  count = file.operand_count m f e;
}

unfoldable pub statement_of : List ℕ → ℕ → ℕ → Statement
statement_of m f t = record {
  index = t;
  kind = file.s_kind m f t;
  sub = file.s_sub m f t;
  number = file.s_number m f t;
  end = file.s_end m f t;
  first = file.s_first m f t;
  count = file.s_count m f t;
}
