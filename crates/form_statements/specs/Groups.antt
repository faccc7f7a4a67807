-- The checks of 01, 2.7 by the groups in which the code makes them, of a record. That they are the definitions'
-- checks is proved in proofs/Grouping.
use Rattle.std.specs.Prelude.{ℕ, ◌+◌, List, [], ◌∷◌, Bool, ◌&&◌, ◌||◌, not, ltb, leb, eqb}
use Rattle.definitions.specs.Limits.{version_1}
use Rattle.definitions.specs.Bytes.{range}
use Rattle.definitions.specs.Module.{statements}
use Rattle.definitions.specs.Checks.{refusal, Checked, ◌>>=◌, Check, ◌⇒◌, for_each}
use Rattle.definitions.specs.Roles.{s_has_sub, s_takes, s_has_number}
use Rattle.definitions.specs.Form.{holds_others, misowned, statement_form, arms_form}
use Rattle.module.specs.declared.Statement.{Statement}
use Rattle.form_records.specs.OperandChecks.{Operands, operands_misplaced, operands_fine}

-- 4: kind over 11, or a sub that the kind doesn't have
unfoldable pub unknown_code : Statement → Bool
unknown_code x = ltb 11 x.kind || not (s_has_sub x.kind x.sub)

-- 5: an operand count that is not the kind's; a non-zero `number` or `first` that has no use
unfoldable pub misshapen : Statement → Bool
misshapen x =
    not (s_takes x.kind x.count)
    || ((not (s_has_number x.kind) && ltb 0 x.number) || (not (eqb x.kind 0) && eqb x.count 0 && ltb 0 x.first))

-- 5, badly nested (2.8), where the owner of t is of a kind and ends at an end
unfoldable pub badly_nested : ℕ → Statement → ℕ → ℕ → Bool
badly_nested t x kind end =
    leb x.end t
    || (ltb end x.end
    || ((not (holds_others x.kind) && not (eqb x.end (t + 1))) || (misowned x.kind kind || (eqb x.sub 1 && not (eqb kind 9)))))

-- 6: an Emit range that starts past its end or ends past so many expressions; a Call of f whose callee is no lower
-- function
unfoldable pub unnamed : ℕ → ℕ → Statement → Bool
unnamed f expressions x =
    (eqb x.kind 0 && (ltb x.first x.number || ltb expressions x.first)) || (eqb x.kind 6 && leb f x.number)

-- 2.7 in these groups, of the statement t of f, where its operands are as found
abbrev pub statement_checks : ℕ → ℕ → Bool → Bool → Operands → Bool → Bool → Bool → Bool → List Check
statement_checks f t code shape operands nesting name deep call =
    (code ⇒ refusal 4 f t)
    ∷ (shape ⇒ refusal 5 f t)
    ∷ (operands_misplaced operands ⇒ refusal 5 f t)
    ∷ (nesting ⇒ refusal 5 f t)
    ∷ (not (operands_fine operands) ⇒ refusal 6 f t)
    ∷ (name ⇒ refusal 6 f t)
    ∷ (deep ⇒ refusal 15 f t)
    ∷ (call ⇒ refusal 10 f t)
    ∷ []

-- 2.5, 7 the statements, and then the number of arms
unfoldable pub statements_form : List ℕ → ℕ → Checked (Unit {0})
statements_form m f =
    for_each (statement_form version_1 m f) (range 0 (statements m f)) >>= λ _. for_each (arms_form m f) (range 0 (statements m f))
