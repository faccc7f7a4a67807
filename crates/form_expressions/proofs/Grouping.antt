-- The groups in which the code makes the checks of an expression are the definitions' checks, in their order.
use Prim.Native.Nat.{ℕ, ◌+◌, ◌≤◌}
use mathlib.Core.Path.{◌≡◌, refl, sym, ap, subst, ◌∙◌}
use mathlib.Core.List.{List, [], ◌∷◌}
use mathlib.Core.Bool.{Bool, true, false, true≢false, ◌&&◌, ◌||◌, not}
use lib.Dec.{leb}
use borrow.Author.Tests.{ltb-false, not-false}
use Rattle.definitions.specs.Bytes.{range}
use Rattle.definitions.specs.Module as file
use Rattle.std.specs.Prelude.{Result, Ok, Err}
use Rattle.std.specs.Result.{MatchResult, IsErrAnd, is_ok}
use Rattle.vocabulary.specs.Said.{refusal_said}
use Rattle.vocabulary.specs.declared.refusal.Refusal.{Refusal}
use Rattle.definitions.specs.Checks.{refusal, Check, ◌⇒◌, first, any, refused}
use Rattle.definitions.specs.Form as checks
use Rattle.definitions.specs.Form.{expression_form}
use Rattle.module.specs.declared.Sheet.{Sheet}
use Rattle.module.specs.declared.Expression.{Expression}
use Rattle.module.specs.Sheets.{ValidSheet, IsExpression, expression_of}
use Rattle.module.proofs.Places.{bounds, expression_is}
use Rattle.form_records.specs.OperandChecks.{Operands, operands_found, operands_misplaced, operands_fine}
use Rattle.form_records.specs.declared.OperandFault.{OperandFault}
use Rattle.form_records.specs.declared.OperandFault.TheVariants.{Outside, Misplaced, Astray}
use Rattle.form_records.proofs.CheckLists.{or_neither, pass, join, behind, operands_first}
use Rattle.form_expressions.specs.Groups.{unknown_code, misshapen, unnamed, expression_checks}
use Rattle.form_expressions.specs.Operands.{misplaced_at, late_at}
use Rattle.form_expressions.specs.Required.{ValidFields}

in_groups : (f e : ℕ) (k s n i j a b c p q r : Bool)
    → first (
    (k ⇒ refusal 4 f e)
    ∷ (s ⇒ refusal 4 f e)
    ∷ (n ⇒ refusal 5 f e)
    ∷ (i ⇒ refusal 5 f e)
    ∷ (j ⇒ refusal 5 f e)
    ∷ (a && b ⇒ refusal 5 f e)
    ∷ (not a ⇒ refusal 6 f e)
    ∷ (c ⇒ refusal 6 f e)
    ∷ (p ⇒ refusal 6 f e)
    ∷ (q ⇒ refusal 6 f e)
    ∷ (r ⇒ refusal 6 f e)
    ∷ [])
    ≡ first (expression_checks f e (k || s) (n || (i || j)) (operands_found a b c) (p || (q || r)))
in_groups f e k s n i j a b c p q r =
    join k s _ _
    ∙ behind _ _ _ (
    behind _ _ _ (join i j _ _)
    ∙ (join n (i || j) _ _
    ∙ behind _ _ _ (
    operands_first a b c _ _ [] _
    ∙ behind _ _ _ (behind _ _ _ (
    behind _ _ _ (join q r _ _)
    ∙ join p (q || r) _ _)))))

-- what is found of the operands of a record, in a pool of so many
abbrev pub found_of : List ℕ → ℕ → ℕ → Expression → Operands
found_of m f operands x =
    operands_found (leb (x.first + x.count) operands) (any (misplaced_at m f x) (range 0 x.count)) (any (late_at m f x) (range 0 x.count))

grouped : (m : List ℕ) (f e operands arguments globals : ℕ) (x : Expression)
    → x ≡ expression_of m f e → operands ≡ file.operands m f → arguments ≡ file.arguments m f → globals ≡ file.globals m
    → first (expression_form m f e) ≡ first (expression_checks f e (unknown_code x) (misshapen x) (found_of m f operands x) (unnamed f arguments globals x))
unfolding expression_form expression_of unknown_code misshapen unnamed misplaced_at late_at checks.in_pool checks.some_misplaced checks.some_not_earlier file.operand
grouped m f e operands arguments globals x p q r s = rw (p, q, r, s) (in_groups f e _ _ _ _ _ (checks.in_pool m f e) (checks.some_misplaced m f e) (checks.some_not_earlier m f e) _ _ _)

-- of a sheet that stands, and a record that was read from it
pub expression_groups : (m : List ℕ) (s : Sheet) (e globals : ℕ) (x : Expression) → ValidSheet m s → globals ≡ file.globals m → IsExpression m s.function e x
    → first (expression_form m s.function e)
    ≡ first (expression_checks s.function e (unknown_code x) (misshapen x) (found_of m s.function s.operands x) (unnamed s.function s.arguments globals x))
expression_groups m s e globals x h g r =
    grouped m s.function e s.operands s.arguments globals x (expression_is m s.function e x r)
    (bounds m s h).laid.operands_are (bounds m s h).laid.arguments_are g

-- what is left to check of one that has passed the first two groups
abbrev pub later_checks : ℕ → ℕ → Operands → Bool → List Check
later_checks f e o name = (operands_misplaced o ⇒ refusal 5 f e) ∷ (not (operands_fine o) ⇒ refusal 6 f e) ∷ (name ⇒ refusal 6 f e) ∷ []

pub later_groups : (m : List ℕ) (s : Sheet) (e globals : ℕ) (x : Expression) → ValidSheet m s → globals ≡ file.globals m → IsExpression m s.function e x
    → unknown_code x ≡ false → misshapen x ≡ false
    → first (expression_form m s.function e) ≡ first (later_checks s.function e (found_of m s.function s.operands x) (unnamed s.function s.arguments globals x))
later_groups m s e globals x h g r p q = expression_groups m s e globals x h g r ∙ (pass _ _ _ p ∙ pass _ _ _ q)

-- the number of the refusal for a fault of the operands
abbrev pub fault_number : OperandFault → ℕ
fault_number Outside = 6
fault_number Misplaced = 5
fault_number Astray = 6

at_fault : (f e : ℕ) (o : Operands) (x : OperandFault) (name : Bool) → o ≡ Err x → first (later_checks f e o name) ≡ refused (refusal (fault_number x) f e)
unfolding first ◌⇒◌
at_fault f e o Outside name h = rw h
at_fault f e o Misplaced name h = rw h
at_fault f e o Astray name h = rw h

-- a refusal that is made of the fault that was found
pub handed_on : {Q : OperandFault → Refusal → Type 0} (f e : ℕ) (o found : Operands) (name : Bool) (r : Result (Unit {0}) Refusal) (y : Refusal)
    → MatchResult o (λ u. r ≡ Ok u) (λ x. IsErrAnd r (Q x)) → ((x : OperandFault) (z : Refusal) → Q x z → refusal_said z ≡ refusal (fault_number x) f e) → r ≡ Err y → o ≡ found
    → refused (refusal_said y) ≡ first (later_checks f e found name)
handed_on f e (Ok u) found name r y h q d is = absurd (true≢false (ap is_ok (sym h ∙ d)))
handed_on {Q} f e (Err x) found name r y h q d is = ap refused (q x y (subst (λ s. IsErrAnd s (Q x)) d h)) ∙ sym (at_fault f e found x name (sym is))

pub none_at_fault : (f e : ℕ) (o : Operands) (name : Bool) → is_ok o ≡ true → first (later_checks f e o name) ≡ first ((name ⇒ refusal 6 f e) ∷ [])
unfolding first ◌⇒◌
none_at_fault f e (Ok u) name h = refl
none_at_fault f e (Err x) name h = absurd (true≢false (sym h))

-- an expression that has passed the first two groups has a kind, a sub and a count of 4.1
pub fields_valid : (x : Expression) → unknown_code x ≡ false → misshapen x ≡ false → ValidFields x
unfolding unknown_code misshapen
fields_valid x p q =
    let code = or_neither _ _ p in
    record {
      kind_known = ltb-false _ _ code.0;
      sub_known = not-false _ code.1;
      count_fits = not-false _ (or_neither _ _ q).0;
    }

pub known_kind : (x : Expression) → unknown_code x ≡ false → x.kind ≤ 18
unfolding unknown_code
known_kind x p = ltb-false _ _ (or_neither _ _ p).0
