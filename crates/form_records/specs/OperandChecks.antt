-- What is found of a record's operands: whether its part lies in the pool, some operand is misplaced, and some names
-- what it may not.
use Rattle.std.specs.Prelude.{ℕ, Bool, true, false, ◌||◌, ◌+◌, ◌<◌, ◌≡◌, List, Result, Ok, Err}
use Rattle.definitions.specs.Bytes.{range}
use Rattle.definitions.specs.Checks.{any}
use Rattle.definitions.specs.Module.{pooled}
use Rattle.vocabulary.specs.declared.ids.ExpressionIndex.{ExpressionIndex}
use Rattle.form_records.specs.declared.OperandFault.{OperandFault}
use Rattle.form_records.specs.declared.OperandFault.TheVariants.{Outside, Misplaced, Astray}

-- what the code answers of a record's operands: nothing where they are fine, or their fault
abbrev pub Operands : Type 0
Operands = Result (Unit {0}) OperandFault

unfoldable pub operands_found : Bool → Bool → Bool → Operands
operands_found false misplaced astray = Err Outside
operands_found true true astray = Err Misplaced
operands_found true false true = Err Astray
operands_found true false false = Ok tt

abbrev pub operands_misplaced : Operands → Bool
operands_misplaced (Err Outside) = false
operands_misplaced (Err Misplaced) = true
operands_misplaced (Err Astray) = false
operands_misplaced (Ok u) = false

abbrev pub operands_fine : Operands → Bool
operands_fine (Err x) = false
operands_fine (Ok u) = true

-- the n operands from j on, where one before them may be astray already
unfoldable pub found_from : (ℕ → Bool) → (ℕ → Bool) → ℕ → ℕ → Bool → Operands
found_from misplaced astray j n already = operands_found true (any misplaced (range j n)) (already || any astray (range j n))

-- what a test of the code answers of each of n operands of f, from first on, at its position is what p says of the
-- position
abbrev pub Tells : (ℕ → ExpressionIndex → Bool → Type 0) → List ℕ → ℕ → ℕ → ℕ → (ℕ → Bool) → Type 0
Tells answers m f first n p = (j : ℕ) (o : ExpressionIndex) (b : Bool) → j < n → o.0 ≡ pooled m f (first + j) → answers j o b → b ≡ p j
