-- The file's header: how the form of a module is made of what the code's functions answer, and what a header that has
-- passed gives.
use Prim.Native.Nat.{ℕ, ◌+◌}
use mathlib.Core.Path.{◌≡◌, sym, ap, ◌∙◌}
use mathlib.Core.List.{List}
use mathlib.Core.Bool.{Bool, not}
use lib.Dec.{ltb, eqb, lit<}
use borrow.Author.Tests.{ltb-false, eqb-true, eqb-false, eq-eqb, ne_eqb}
use Rattle.definitions.specs.Bytes.{range}
use Rattle.definitions.specs.Limits.{version_1}
use Rattle.definitions.specs.Module as file
use Rattle.definitions.specs.Checks.{Checked, fine, ◌>>=◌, ◌⇒◌, first, for_each}
use Rattle.definitions.specs.Form as checks
use Rattle.definitions.proofs.Passed.{passes}
use Rattle.definitions.proofs.Runs.{bind_assoc, bind_same}
use Rattle.form_records.proofs.CheckLists.{by_bool, first_append}
use Rattle.form.specs.Groups.{header_form, counts_form, sheets_form}
use Rattle.form.specs.Layout.{ValidHeader}

pub form_grouped : (m : List ℕ) → checks.form version_1 m ≡ (first (header_form m) >>= λ _. (for_each (checks.space_code m) (range 0 (file.globals m)) >>= λ _. sheets_form m))
unfolding checks.form header_form counts_form sheets_form
form_grouped m =
    let a = first (checks.outer version_1 m) in
    let b = first (checks.module_counts version_1 m) in
    let c = first (checks.space_bytes m) in
    let d = first (checks.capability_code m) in
    let rest : Unit {0} → Checked (Unit {0}) = λ _. (for_each (checks.space_code m) (range 0 (file.globals m)) >>= λ _. sheets_form m) in
    let split : first (header_form m) ≡ (a >>= λ _. (b >>= λ _. (c >>= λ _. d))) =
    first_append (checks.outer version_1 m) _
    ∙ bind_same a (λ _. first_append (checks.module_counts version_1 m) _ ∙ bind_same b (λ _. first_append (checks.space_bytes m) _)) in
    sym (ap (λ o. o >>= rest) split
    ∙ (bind_assoc a (λ _. (b >>= λ _. (c >>= λ _. d))) rest
    ∙ bind_same a (λ _. bind_assoc b (λ _. (c >>= λ _. d)) rest ∙ bind_same b (λ _. bind_assoc c (λ _. d) rest))))

-- what a header that has passed gives
pub header_valid : (m : List ℕ) → first (header_form m) ≡ fine tt → ValidHeader m
unfolding header_form counts_form checks.outer checks.module_counts checks.space_bytes checks.capability_code ◌⇒◌
header_valid m e =
    let p = passes (header_form m) e in
    record {
      header = ltb-false _ _ (p 0 (lit< tt));
      small = ltb-false _ _ (p 1 (lit< tt));
      few_functions = ltb-false _ _ (p 5 (lit< tt));
      spaces = ltb-false _ _ (p 6 (lit< tt));
    }

-- a number that was read, held against a limit
pub over_is : (k r x : ℕ) (b v : Bool) → b ≡ ltb k r → r ≡ x → b ≡ v → ltb k x ≡ v
over_is k r x b v e p q = ap (ltb k) (sym p) ∙ (sym e ∙ q)

-- two equations that say the same, as tests
pub same_test : (a b c d : ℕ) → (a ≡ b → c ≡ d) → (c ≡ d → a ≡ b) → eqb a b ≡ eqb c d
same_test a b c d p q =
    by_bool (eqb c d)
    (λ e. eq-eqb a b (q (eqb-true c d e)) ∙ sym e)
    (λ e. ne_eqb a b (λ w. eqb-false c d e (p w)) ∙ sym e)

-- the length field and the version byte, as the code reads them
pub length_field_is : (z b n : ℕ) → z ≡ b → eqb (b + 4) n ≡ eqb (z + 4) n
length_field_is z b n p = ap (λ x. eqb (x + 4) n) (sym p)

pub version_is : (r b : ℕ) (u v : Bool) → r ≡ b → u ≡ not (eqb r version_1.version) → u ≡ v → not (eqb b version_1.version) ≡ v
version_is r b u v p e q = ap (λ x. not (eqb x version_1.version)) (sym p) ∙ (sym e ∙ q)
