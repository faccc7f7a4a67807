-- The tables by which the quick test accepts an expression, a list for each of the code's.
use Rattle.std.specs.Prelude.{ℕ, ◌-◌, ◌≡◌, List, [], ◌∷◌, map}
use Rattle.definitions.specs.Module as file
use Rattle.module.specs.declared.Sheet.{Sheet}
use Rattle.form_expressions.specs.declared.fast.CountRow.{CountRow}
use Rattle.form_expressions.specs.declared.fast.QuickTables.{QuickTables}

-- by kind, what `number` is below, with a arguments, g globals and f lower functions; where it has no use, it is zero
unfoldable pub number_below : ℕ → ℕ → ℕ → List ℕ
number_below a g f = 1 ∷ a ∷ g ∷ 1 ∷ f ∷ 1 ∷ 1 ∷ 1 ∷ 1 ∷ 1 ∷ 1 ∷ 1 ∷ 1 ∷ 1 ∷ 1 ∷ 1 ∷ 1 ∷ 1 ∷ 1 ∷ []

-- by kind, how many operands it has: none, one or two; 3 where the test does not accept it
unfoldable pub few_operands : List ℕ
few_operands = 0 ∷ 0 ∷ 0 ∷ 0 ∷ 0 ∷ 2 ∷ 1 ∷ 1 ∷ 1 ∷ 2 ∷ 3 ∷ 2 ∷ 3 ∷ 3 ∷ 3 ∷ 2 ∷ 1 ∷ 2 ∷ 3 ∷ []

-- by how many operands there are, what `first` is below so that they lie in a pool of so many
unfoldable pub first_below : ℕ → List ℕ
first_below operands = 1 ∷ operands ∷ (operands - 1) ∷ 0 ∷ []

-- by how many there are, the upper two bits of each of them, of two numbers of two bytes
unfoldable pub guards : List ℕ
guards = 0 ∷ 3221225472 ∷ 3221274624 ∷ 0 ∷ []

-- the four tables for a sheet
pub record QuickTablesLayout (m : List ℕ) (s : Sheet) (q : QuickTables) : Type 0 where
  pub number_below_is : q.number_below ≡ number_below s.arguments (file.globals m) s.function
  pub few_operands_is : q.few_operands ≡ few_operands
  pub first_below_is : map (λ (r : CountRow). r.first_below) q.by_count ≡ first_below s.operands
  pub guards_are : map (λ (r : CountRow). r.guard) q.by_count ≡ guards
