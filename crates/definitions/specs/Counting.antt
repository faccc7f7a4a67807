-- 01, 6.5: the sum of a function's reference counts is the number of its present operands in expressions and statements plus its
-- initialisers.
use Rattle.std.specs.Prelude.{ℕ, ◌+◌, List, [], ◌∷◌, length}
use Rattle.definitions.specs.Bytes.{range}
use Rattle.definitions.specs.Module.{expressions, statements, initialisers}
use Rattle.definitions.specs.State.{operands_of, s_operands_of}
use Rattle.definitions.specs.Summary.{Entry}

unfoldable pub sum_over : {A : Type 0} → (A → ℕ) → List A → ℕ
sum_over w [] = 0
sum_over w (x ∷ xs) = w x + sum_over w xs

unfoldable pub counts_of : List Entry → ℕ
counts_of entries = sum_over (λ e. e.count) entries

unfoldable pub references : List ℕ → ℕ → ℕ
references m f =
    sum_over (λ e. length (operands_of m f e)) (range 0 (expressions m f))
    + sum_over (λ t. length (s_operands_of m f t)) (range 0 (statements m f))
    + initialisers m f
