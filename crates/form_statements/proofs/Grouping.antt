-- The groups in which the code makes the checks of a statement are the definitions' checks, in their order. How many
-- arguments a callee takes is asked only of a lower function, of which the code has it.
use Prim.Native.Nat.{ℕ, ◌+◌, ◌<◌}
use mathlib.Core.Path.{◌≡◌, sym, ap, ◌∙◌}
use mathlib.Core.List.{List, [], ◌∷◌}
use mathlib.Core.Bool.{Bool, false, ◌&&◌, ◌||◌, not}
use lib.Dec.{ltb, leb, eqb}
use lib.ListN.{get_or}
use borrow.Author.Tests.{leb-false, eqb-true, eq-eqb}
use Rattle.definitions.specs.Bytes.{range}
use Rattle.definitions.specs.Limits.{version_1}
use Rattle.definitions.specs.Module as file
use Rattle.definitions.specs.Checks.{refusal, ◌⇒◌, first, any}
use Rattle.definitions.specs.Form as checks
use Rattle.definitions.specs.Form.{statement_form}
use Rattle.definitions.proofs.Passed.{when_left}
use Rattle.module.specs.declared.Sheet.{Sheet}
use Rattle.module.specs.declared.Statement.{Statement}
use Rattle.module.specs.Sheets.{IsStatement, statement_of}
use Rattle.module.proofs.Places.{bounds, statement_is}
use Rattle.form_records.specs.OperandChecks.{Operands, operands_found}
use Rattle.form_records.proofs.CheckLists.{by_bool, or_neither, join, behind, stop, operands_first}
use Rattle.form_statements.specs.Groups.{unknown_code, misshapen, badly_nested, unnamed, statement_checks}
use Rattle.form_statements.specs.Operands.{absent_at, unknown_at}
use Rattle.form_statements.specs.Context.{ValidArgumentCounts, ValidContext}

in_groups : (f t : ℕ) (k s n i j a b c u v w x y p q deep call : Bool)
    → first (
    (k ⇒ refusal 4 f t)
    ∷ (s ⇒ refusal 4 f t)
    ∷ (n ⇒ refusal 5 f t)
    ∷ (i ⇒ refusal 5 f t)
    ∷ (j ⇒ refusal 5 f t)
    ∷ (a && b ⇒ refusal 5 f t)
    ∷ (u ⇒ refusal 5 f t)
    ∷ (v ⇒ refusal 5 f t)
    ∷ (w ⇒ refusal 5 f t)
    ∷ (x ⇒ refusal 5 f t)
    ∷ (y ⇒ refusal 5 f t)
    ∷ (not a ⇒ refusal 6 f t)
    ∷ (c ⇒ refusal 6 f t)
    ∷ (p ⇒ refusal 6 f t)
    ∷ (q ⇒ refusal 6 f t)
    ∷ (deep ⇒ refusal 15 f t)
    ∷ (call ⇒ refusal 10 f t)
    ∷ [])
    ≡ first (statement_checks f t (k || s) (n || (i || j)) (operands_found a b c) (u || (v || (w || (x || y)))) (p || q) deep call)
in_groups f t k s n i j a b c u v w x y p q deep call =
    join k s _ _
    ∙ behind _ _ _ (
    behind _ _ _ (join i j _ _)
    ∙ (join n (i || j) _ _
    ∙ behind _ _ _ (
    operands_first a b c _ _ ((u ⇒ refusal 5 f t) ∷ (v ⇒ refusal 5 f t) ∷ (w ⇒ refusal 5 f t) ∷ (x ⇒ refusal 5 f t) ∷ (y ⇒ refusal 5 f t) ∷ []) _
    ∙ behind _ _ _ (
    behind _ _ _ (behind _ _ _ (behind _ _ _ (join x y _ _) ∙ join w (x || y) _ _) ∙ join v (w || (x || y)) _ _)
    ∙ (join u (v || (w || (x || y))) _ _
    ∙ behind _ _ _ (behind _ _ _ (join p q _ _)))))))

-- a callee that is asked about is a lower function
pub callee_lower : (f expressions : ℕ) (x : Statement) → unnamed f expressions x ≡ false → x.kind ≡ 6 → x.number < f
unfolding unnamed
callee_lower f expressions x e k =
    leb-false f x.number (when_left (eqb x.kind 6) (leb f x.number) (eq-eqb x.kind 6 k)
    (or_neither (eqb x.kind 0 && (ltb x.first x.number || ltb expressions x.first)) (eqb x.kind 6 && leb f x.number) e).1)

same_call : (m : List ℕ) (f expressions : ℕ) (counts : List ℕ) (x : Statement) → ValidArgumentCounts m f counts → unnamed f expressions x ≡ false
    → (eqb x.kind 6 && not (eqb x.count (file.arguments m x.number))) ≡ (eqb x.kind 6 && not (eqb x.count (get_or counts x.number 0)))
same_call m f expressions counts x h e =
    by_bool (eqb x.kind 6)
    (λ p. rw (p, h.counts_are x.number (callee_lower f expressions x e (eqb-true x.kind 6 p))))
    (λ p. rw p)

same_last : (f t : ℕ) (name deep a b : Bool) → (name ≡ false → a ≡ b)
    → first ((name ⇒ refusal 6 f t) ∷ (deep ⇒ refusal 15 f t) ∷ (a ⇒ refusal 10 f t) ∷ []) ≡ first ((name ⇒ refusal 6 f t) ∷ (deep ⇒ refusal 15 f t) ∷ (b ⇒ refusal 10 f t) ∷ [])
same_last f t name deep a b e =
    by_bool name
    (λ q. stop _ _ _ q ∙ sym (stop _ _ _ q))
    (λ q. ap (λ r. first ((name ⇒ refusal 6 f t) ∷ (deep ⇒ refusal 15 f t) ∷ (r ⇒ refusal 10 f t) ∷ [])) (e q))

-- what is found of the operands of a record, in a pool of so many
abbrev pub found_of : List ℕ → ℕ → ℕ → ℕ → Statement → Operands
found_of m f operands expressions x =
    operands_found (eqb x.count 0 || leb (x.first + x.count) operands) (any (absent_at m f x) (range 0 x.count)) (any (unknown_at m f expressions x) (range 0 x.count))

grouped : (m : List ℕ) (f t operands expressions kind end depth : ℕ) (counts : List ℕ) (x : Statement)
    → x ≡ statement_of m f t → operands ≡ file.operands m f → expressions ≡ file.expressions m f
    → kind ≡ checks.owner_kind m f t → end ≡ checks.owner_end m f t → depth ≡ checks.depth m f t → ValidArgumentCounts m f counts
    → first (statement_form version_1 m f t)
    ≡ first (statement_checks f t (unknown_code x) (misshapen x) (found_of m f operands expressions x) (badly_nested t x kind end) (unnamed f expressions x) (ltb version_1.depth depth)
    (eqb x.kind 6 && not (eqb x.count (get_or counts x.number 0))))
unfolding statement_form statement_of unknown_code misshapen badly_nested unnamed absent_at unknown_at checks.s_in_pool checks.s_some_absent checks.s_some_unknown file.s_operand
grouped m f t operands expressions kind end depth counts x p q r k n d h =
    rw (p, q, r, k, n, d) (
    in_groups f t _ _ _ _ _ (checks.s_in_pool m f t) (checks.s_some_absent m f t) (checks.s_some_unknown m f t) _ _ _ _ _ _ _ _ _
    ∙ behind _ _ _ (behind _ _ _ (behind _ _ _ (behind _ _ _ (behind _ _ _ (same_last f t _ _ _ _ (same_call m f (file.expressions m f) counts (statement_of m f t) h)))))))

-- of a statement of which all is known, and a record that was read of it
pub statement_groups : (m : List ℕ) (s : Sheet) (counts : List ℕ) (t kind end depth : ℕ) (x : Statement) → ValidContext m s counts t kind end depth → IsStatement m s.function t x
    → first (statement_form version_1 m s.function t)
    ≡ first (statement_checks s.function t (unknown_code x) (misshapen x) (found_of m s.function s.operands s.expressions x) (badly_nested t x kind end) (unnamed s.function s.expressions x)
    (ltb version_1.depth depth) (eqb x.kind 6 && not (eqb x.count (get_or counts x.number 0))))
statement_groups m s counts t kind end depth x h r =
    let l = (bounds m s h.sheet_stands).laid in
    grouped m s.function t s.operands s.expressions kind end depth counts x (statement_is m s.function t x r)
    l.operands_are l.expressions_are h.owner_kind_is h.owner_end_is h.depth_is h.counts_kept
