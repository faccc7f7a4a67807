-- What acceptance means for later stages: in a module whose form is accepted, the file is small enough, and every
-- sheet stands where the one before it ends. No later function tests any of it again.
use Prim.Native.Nat.{ℕ, suc, ◌+◌, ◌≤◌, ◌<◌}
use mathlib.Core.Path.{◌≡◌, sym, ap, ◌∙◌, subst}
use mathlib.Core.List.{List}
use lib.ListN.{length}
use Rattle.definitions.specs.Limits.{version_1}
use Rattle.definitions.specs.Module as file
use Rattle.definitions.specs.Checks.{fine}
use Rattle.definitions.specs.Form.{form}
use Rattle.definitions.proofs.Formed.{Formed, SheetFormed, formed}
use Rattle.module.specs.declared.Sheet.{Sheet}
use Rattle.module.specs.Sheets.{SheetLayout, ValidSheet}
use Rattle.form.proofs.SheetChecks as sheets
use Rattle.form.proofs.SheetChecks.{ValidSheetHeader}

-- the form of m is accepted
abbrev pub Accepted : List ℕ → Type 0
Accepted m = form version_1 m ≡ fine tt

module _ (m : List ℕ) (a : Accepted m) where
  pub header : Formed version_1 m
  header = formed version_1 m a

  -- the file is small enough
  pub file_small : (10 ≤ length m) × (length m ≤ 65536)
  unfolding version_1
  file_small = (header.header_there, header.short_enough)

  module _ (f : ℕ) (there : f < file.functions m) where
    pub sheet_of : SheetFormed version_1 m f
    sheet_of = header.each_sheet f there

    -- a sheet can be read, and stands where it says; the next begins where it ends
    pub sheet_there : file.sheet m f + 17 ≤ length m
    sheet_there = sheet_of.header_there

    header_of : ValidSheetHeader m f
    header_of =
        let w = sheet_of in
        record {
          few_arguments = w.few_arguments;
          few_expressions = w.few_expressions;
          few_operands = w.few_operands;
          few_statements = w.few_statements;
          few_initialisers = w.few_initialisers;
          few_named = w.few_named;
          length_right = w.length_right;
          all_there = w.all_there;
        }

    pub sheet_stands : (s : Sheet) → s.function ≡ f → SheetLayout m s → ValidSheet m s
    sheet_stands s named l = sheets.sheet_stands m s l (subst (λ (k : ℕ). ValidSheetHeader m k) (sym named) header_of) header.short_enough

    pub next_sheet_at : (s : Sheet) → s.function ≡ f → SheetLayout m s → file.sheet m (suc f) ≡ s.end
    next_sheet_at s named l =
        ap (λ k. file.sheet m (suc k)) (sym named) ∙ sheets.next_sheet m s l (subst (λ (k : ℕ). ValidSheetHeader m k) (sym named) header_of)
