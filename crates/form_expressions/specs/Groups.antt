-- The checks of 01, 2.6 by the groups in which the code makes them, of a record. That they are the definitions'
-- checks is proved in proofs/Grouping.
use Rattle.std.specs.Prelude.{ℕ, List, [], ◌∷◌, Bool, ◌&&◌, ◌||◌, not, ltb, leb, eqb}
use Rattle.definitions.specs.Checks.{refusal, Check, ◌⇒◌}
use Rattle.definitions.specs.Roles.{has_sub, takes, has_number}
use Rattle.module.specs.declared.Expression.{Expression}
use Rattle.form_records.specs.OperandChecks.{Operands, operands_misplaced, operands_fine}

-- 4: kind over 18, or a sub that the kind doesn't have
unfoldable pub unknown_code : Expression → Bool
unknown_code x = ltb 18 x.kind || not (has_sub x.kind x.sub)

-- 5: an operand count that is not the kind's; a non-zero `number` or `first` that has no use
unfoldable pub misshapen : Expression → Bool
misshapen x = not (takes x.kind x.count) || ((not (has_number x.kind) && ltb 0 x.number) || (eqb x.count 0 && ltb 0 x.first))

-- 6: `number` that names no argument of f, no global, or no lower function, where there are so many arguments and
-- globals
unfoldable pub unnamed : ℕ → ℕ → ℕ → Expression → Bool
unnamed f arguments globals x =
    (eqb x.kind 1 && leb arguments x.number) || ((eqb x.kind 2 && leb globals x.number) || (eqb x.kind 4 && leb f x.number))

-- 2.6 in these groups, of the expression e of f, where its operands are as found
abbrev pub expression_checks : ℕ → ℕ → Bool → Bool → Operands → Bool → List Check
expression_checks f e code shape operands name =
    (code ⇒ refusal 4 f e)
    ∷ (shape ⇒ refusal 5 f e)
    ∷ (operands_misplaced operands ⇒ refusal 5 f e)
    ∷ (not (operands_fine operands) ⇒ refusal 6 f e)
    ∷ (name ⇒ refusal 6 f e)
    ∷ []
