-- A sheet: its header as the code checks it, where it ends, and how its form is made of that of its parts.
use Prim.Native.Nat.{ℕ, suc, ◌+◌, ◌≤◌}
use native.Mathlib.Omega.{arith}
use mathlib.Core.Path.{◌≡◌, sym, ap, ◌∙◌}
use mathlib.Core.List.{List, [], ◌∷◌}
use mathlib.Core.Bool.{Bool, ◌||◌, not}
use lib.Dec.{ltb, eqb, lit<}
use lib.ListN.{length}
use borrow.Author.Tests.{ltb-false, eqb-true, not-false, le-ltb}
use Rattle.definitions.specs.Bytes.{range, byte, be32}
use Rattle.definitions.specs.Limits.{version_1}
use Rattle.definitions.specs.Module as file
use Rattle.definitions.specs.Checks.{Refusal, refusal, fine, ◌>>=◌, Check, ◌⇒◌, first, for_each}
use Rattle.definitions.specs.Form as checks
use Rattle.definitions.proofs.Passed.{passes}
use Rattle.definitions.proofs.Runs.{bind_assoc}
use Rattle.module.specs.declared.Sheet.{Sheet}
use Rattle.module.specs.Sheets.{SheetLayout, ValidSheet}
use Rattle.module.proofs.Places.{stands}
use Rattle.form_records.proofs.CheckLists.{pass, join, behind}
use Rattle.form_statements.specs.Groups.{statements_form}
use Rattle.form.specs.Groups.{listed_at}
use Rattle.form.specs.Layout.{SheetStartLayout}
use Rattle.form.proofs.HeaderChecks.{same_test}

-- six counts over their limits are one check
six : (a b c d e g : Bool) (r : Refusal) (cs : List Check)
    → first ((a ⇒ r) ∷ (b ⇒ r) ∷ (c ⇒ r) ∷ (d ⇒ r) ∷ (e ⇒ r) ∷ (g ⇒ r) ∷ cs) ≡ first ((a || (b || (c || (d || (e || g)))) ⇒ r) ∷ cs)
six a b c d e g r cs =
    behind _ _ _ (behind _ _ _ (behind _ _ _ (behind _ _ _ (join e g r cs) ∙ join d (e || g) r cs) ∙ join c (d || (e || g)) r cs) ∙ join b (c || (d || (e || g))) r cs)
    ∙ join a (b || (c || (d || (e || g)))) r cs

-- the header of a sheet whose 17 bytes are there, as the code has it
pub sheet_header_grouped : (m : List ℕ) (s : Sheet) → SheetStartLayout m s
    → first (checks.sheet_header version_1 m s.function)
    ≡ first (
    ((ltb version_1.arguments s.arguments || (ltb version_1.expressions s.expressions || (ltb version_1.operands s.operands || (ltb version_1.statements s.statements || (ltb version_1.initialisers s.initialisers || ltb version_1.named s.named))))) ⇒ refusal 3 s.function 0)
    ∷ (not (eqb (file.sheet_length m s.function) (file.parts_length m s.function)) ⇒ refusal 2 s.function 0)
    ∷ (ltb (length m) (file.sheet m s.function + 4 + file.sheet_length m s.function) ⇒ refusal 2 s.function 0)
    ∷ (ltb 1 (file.flag m s.function) ⇒ refusal 4 s.function 0)
    ∷ [])
unfolding checks.sheet_header
sheet_header_grouped m s h =
    let l = h.laid in
    let there : file.sheet m s.function + 17 ≤ length m = omega (arith, l.begins, h.begun) in
    rw (l.arguments_are, l.expressions_are, l.operands_are, l.statements_are, l.initialisers_are, l.named_are)
    (pass _ _ _ (le-ltb _ _ there) ∙ six _ _ _ _ _ _ _ _)

-- where its parts end
pub parts_end : (m : List ℕ) (s : Sheet) → SheetLayout m s → s.end ≡ s.at + 4 + file.parts_length m s.function
unfolding file.parts_length
parts_end m s l = omega arith

-- the tests of the code, of a length field z that was read where the sheet begins
module _ (m : List ℕ) (s : Sheet) (h : SheetStartLayout m s) (z : ℕ) (read : z ≡ be32 m s.at) where
  length_read : file.sheet_length m s.function ≡ z
  unfolding file.sheet_length
  length_read = sym (read ∙ ap (be32 m) h.laid.begins)

  pub sheet_length_is : eqb (file.sheet_length m s.function) (file.parts_length m s.function) ≡ eqb (s.at + 4 + z) s.end
  sheet_length_is =
      let e = parts_end m s h.laid in
      same_test (file.sheet_length m s.function) (file.parts_length m s.function) (s.at + 4 + z) s.end (λ q. omega (arith, length_read)) (λ q. omega (arith, length_read))

  pub sheet_end_is : s.at + 4 + z ≡ s.end → ltb (length m) (file.sheet m s.function + 4 + file.sheet_length m s.function) ≡ ltb (length m) s.end
  sheet_end_is q =
      let e : file.sheet m s.function + 4 + file.sheet_length m s.function ≡ s.end = omega (arith, length_read, h.laid.begins) in
      ap (ltb (length m)) e

pub flag_is : (m : List ℕ) (s : Sheet) → SheetStartLayout m s → (z : ℕ) → z ≡ byte m (s.at + 4) → z ≡ file.flag m s.function
unfolding file.flag
flag_is m s h z e = e ∙ ap (λ x. byte m (x + 4)) h.laid.begins

-- a sheet whose header has passed: its counts, its length and its place in the file
pub record ValidSheetHeader (m : List ℕ) (f : ℕ) : Type 0 where
  pub few_arguments : file.arguments m f ≤ version_1.arguments
  pub few_expressions : file.expressions m f ≤ version_1.expressions
  pub few_operands : file.operands m f ≤ version_1.operands
  pub few_statements : file.statements m f ≤ version_1.statements
  pub few_initialisers : file.initialisers m f ≤ version_1.initialisers
  pub few_named : file.named m f ≤ version_1.named
  pub length_right : file.sheet_length m f ≡ file.parts_length m f
  pub all_there : file.sheet m f + 4 + file.sheet_length m f ≤ length m

pub sheet_header_valid : (m : List ℕ) (f : ℕ) → first (checks.sheet_header version_1 m f) ≡ fine tt → ValidSheetHeader m f
unfolding checks.sheet_header ◌⇒◌
sheet_header_valid m f e =
    let p = passes (checks.sheet_header version_1 m f) e in
    record {
      few_arguments = ltb-false _ _ (p 1 (lit< tt));
      few_expressions = ltb-false _ _ (p 2 (lit< tt));
      few_operands = ltb-false _ _ (p 3 (lit< tt));
      few_statements = ltb-false _ _ (p 4 (lit< tt));
      few_initialisers = ltb-false _ _ (p 5 (lit< tt));
      few_named = ltb-false _ _ (p 6 (lit< tt));
      length_right = eqb-true _ _ (not-false _ (p 7 (lit< tt)));
      all_there = ltb-false _ _ (p 8 (lit< tt));
    }

-- it stands, and the next begins where it ends
module _ (m : List ℕ) (s : Sheet) (l : SheetLayout m s) (w : ValidSheetHeader m s.function) where
  pub sheet_stands : length m ≤ version_1.file → ValidSheet m s
  unfolding version_1
  sheet_stands small = stands m s (record {
    laid = l;
    within = omega (arith, l.begins, w.length_right, w.all_there, parts_end m s l);
    small = small;
    few_arguments = omega (arith, l.arguments_are, w.few_arguments);
    few_expressions = omega (arith, l.expressions_are, w.few_expressions);
    few_operands = omega (arith, l.operands_are, w.few_operands);
    few_statements = omega (arith, l.statements_are, w.few_statements);
    few_initialisers = omega (arith, l.initialisers_are, w.few_initialisers);
    few_named = omega (arith, l.named_are, w.few_named);
  })

  pub next_sheet : file.sheet m (suc s.function) ≡ s.end
  unfolding file.sheet file.sheet_length
  next_sheet = omega (arith, l.begins, w.length_right, parts_end m s l)

-- a sheet, part by part
pub sheet_grouped : (m : List ℕ) (f : ℕ) → checks.sheet_form version_1 m f tt
    ≡ (first (checks.sheet_header version_1 m f) >>= λ _. (
    for_each (checks.argument_code m f) (range 0 (file.arguments m f)) >>= λ _. (
    for_each (checks.expression_form m f) (range 0 (file.expressions m f)) >>= λ _. (
    statements_form m f >>= λ _. (
    for_each (checks.listed_form m f (file.initialiser m f)) (range 0 (file.initialisers m f)) >>= λ _.
    for_each (checks.listed_form m f (file.named_at m f)) (range 0 (file.named m f)))))))
unfolding checks.sheet_form statements_form
sheet_grouped m f = rw (bind_assoc (for_each (checks.statement_form version_1 m f) (range 0 (file.statements m f))) (λ _. for_each (checks.arms_form m f) (range 0 (file.statements m f))))

-- 2.5, 8 and 9: an entry of a list, as the code checks it
pub listed_is : (m : List ℕ) (s : Sheet) (i x : ℕ) (at : ℕ → ℕ) → SheetLayout m s → x ≡ at i
    → first (listed_at s.function i s.expressions x) ≡ first (checks.listed_form m s.function at i)
unfolding listed_at checks.listed_form
listed_is m s i x at l q = rw (l.expressions_are, q)
