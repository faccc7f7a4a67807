-- The checks of 01, 2.1 to 2.5 by the groups in which the code makes them. That they are the definitions' checks is
-- proved in proofs/HeaderChecks and SheetChecks.
use Rattle.std.specs.Prelude.{ℕ, List, [], ◌∷◌, ◌++◌, leb, eqb}
use Rattle.definitions.specs.Limits.{version_1}
use Rattle.definitions.specs.Bytes.{range}
use Rattle.definitions.specs.Module.{absent, functions}
use Rattle.definitions.specs.Checks.{refusal, Checked, ◌>>=◌, Check, ◌⇒◌, first, each}
use Rattle.definitions.specs.Form.{outer, module_counts, space_bytes, capability_code, sheet_form, left_over}

-- 2.1 to 2.4, up to the first space byte
unfoldable pub counts_form : List ℕ → List Check
counts_form m = module_counts version_1 m ++ (space_bytes m ++ capability_code m)

unfoldable pub header_form : List ℕ → List Check
header_form m = outer version_1 m ++ counts_form m

-- 2.5, 8 an entry x of a list, where there are so many expressions
unfoldable pub listed_at : ℕ → ℕ → ℕ → ℕ → List Check
listed_at f i expressions x = (eqb x absent ⇒ refusal 5 f i) ∷ (leb expressions x ⇒ refusal 6 f i) ∷ []

-- 2.5 the sheets, and 2.10 what is left over
unfoldable pub sheets_form : List ℕ → Checked (Unit {0})
sheets_form m = each (sheet_form version_1 m) (range 0 (functions m)) tt >>= λ _. first (left_over m)
