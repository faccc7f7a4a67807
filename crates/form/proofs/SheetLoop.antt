-- The loop over the sheets: f sheets have passed, the next begins at `at`, and of each the number of arguments is
-- kept.
use Prim.Native.Nat.{ℕ, suc, ◌+◌, ◌-◌, ◌≤◌, ◌<◌}
use native.Mathlib.Omega.{arith}
use mathlib.Core.Path.{◌≡◌, sym, ap, ◌∙◌}
use mathlib.Core.List.{List, [], ◌∷◌}
use lib.Dec.{ltb}
use lib.ListN.{length, get_or, set, length-set}
use lib.Seq.{get_or-set_same, get_or-set_other}
use borrow.Author.Count.{below_more}
use borrow.Author.Tests.{lt-ltb}
use Rattle.definitions.specs.Bytes.{range}
use Rattle.definitions.specs.Limits.{version_1}
use Rattle.definitions.specs.Module as file
use Rattle.definitions.specs.Checks.{Refusal, refusal, fine, refused, ◌⇒◌, first, each}
use Rattle.definitions.specs.Form as checks
use Rattle.definitions.proofs.Fold.{bind_fine}
use Rattle.definitions.proofs.Runs.{run_left, run_done}
use Rattle.module.specs.declared.Sheet.{Sheet}
use Rattle.module.specs.Sheets.{SheetLayout}
use Rattle.module.proofs.Places.{bounds}
use Rattle.limits.specs.Sizes.{functions_size}
use Rattle.form_records.proofs.CheckLists.{stop, refuses, goes}
use Rattle.form_statements.specs.Context.{ValidArgumentCounts}
use Rattle.form.specs.Groups.{sheets_form}
use Rattle.form.specs.Layout.{ValidHeader, SheetStartLayout}
use Rattle.form.proofs.SheetChecks.{sheet_header_valid, sheet_stands, next_sheet, sheet_grouped}

pub record SheetLoopLayout (m : List ℕ) (n f at : ℕ) (counts : List ℕ) : Type 0 where
  pub all_there : n ≡ file.functions m
  pub in_file : f ≤ n
  pub begins : at ≡ file.sheet m f
  pub within : at ≤ length m
  pub long : length counts ≡ functions_size
  pub counts_are : (g : ℕ) → g < f → get_or counts g 0 ≡ file.arguments m g
  pub same : each (checks.sheet_form version_1 m) (range 0 (file.functions m)) tt ≡ each (checks.sheet_form version_1 m) (range f (n - f)) tt

pub sheets_begun : (m : List ℕ) (n at : ℕ) (counts : List ℕ) → ValidHeader m → n ≡ file.functions m → at ≡ 10 + file.globals m → length counts ≡ functions_size
    → SheetLoopLayout m n 0 at counts
unfolding file.sheet
sheets_begun m n at counts h e a long = record {
  all_there = e;
  in_file = omega arith;
  begins = a;
  within = omega (arith, h.spaces);
  long = long;
  counts_are = λ g lt. absurd (omega arith);
  same = (let q : file.functions m ≡ n - 0 = omega arith in ap (λ k. each (checks.sheet_form version_1 m) (range 0 k) tt) q);
}

module _ (m : List ℕ) (n f at : ℕ) (counts : List ℕ) (w : SheetLoopLayout m n f at counts) where
  -- behind the last sheet
  pub left_over_is : n ≤ f → sheets_form m ≡ first ((ltb at (length m) ⇒ refusal 2 n 0) ∷ [])
  unfolding sheets_form checks.left_over
  left_over_is le =
      let here = w.in_file in
      let q : f ≡ file.functions m = omega (arith, w.all_there) in
      goes _ _ (w.same ∙ run_done (checks.sheet_form version_1 m) f n tt le)
      ∙ rw (w.begins, w.all_there, q)

  -- a sheet that refuses, and one of which fewer than 17 bytes remain
  sheet_refuses : (r : Refusal) → f < n → checks.sheet_form version_1 m f tt ≡ refused r → sheets_form m ≡ refused r
  unfolding sheets_form
  sheet_refuses r lt e = refuses _ _ (w.same ∙ (run_left (checks.sheet_form version_1 m) f n tt lt ∙ refuses _ _ e))

  pub sheet_short : f < n → length m < at + 17 → sheets_form m ≡ refused (refusal 2 f 0)
  unfolding checks.sheet_header
  sheet_short lt short =
      sheet_refuses (refusal 2 f 0) lt
      (sheet_grouped m f ∙ refuses _ _ (stop _ _ _ (lt-ltb (length m) (file.sheet m f + 17) (omega (arith, w.begins)))))

  module _ (s : Sheet) (h : ValidHeader m) (named : s.function ≡ f) where
    pub sheet_refused : (r : Refusal) → f < n → checks.sheet_form version_1 m s.function tt ≡ refused r → sheets_form m ≡ refused r
    sheet_refused r lt e = sheet_refuses r lt (ap (λ k. checks.sheet_form version_1 m k tt) (sym named) ∙ e)

    pub sheet_start : SheetLayout m s → at + 17 ≤ length m → SheetStartLayout m s
    sheet_start l room = record {
      laid = l;
      begun = (let q : s.at ≡ at = l.begins ∙ (ap (file.sheet m) named ∙ sym w.begins) in omega arith);
      small = h.small;
    }

    pub counts_valid : f < n → ValidArgumentCounts m s.function counts
    unfolding version_1
    counts_valid lt = record {
      few = omega (arith, h.few_functions, w.all_there);
      counts_are = λ g l. w.counts_are g (omega arith);
    }

    -- one sheet more, whose number of arguments is stored at its index
    pub sheet_turn : (i : ℕ) → i ≡ f → f < n → SheetStartLayout m s → checks.sheet_form version_1 m s.function tt ≡ fine tt
        → SheetLoopLayout m n (f + 1) s.end (set counts i s.arguments)
    unfolding version_1
    sheet_turn i at_f lt b e =
        let header = sheet_header_valid m s.function (bind_fine _ _ (sym (sheet_grouped m s.function) ∙ e)).1 in
        let one : suc s.function ≡ f + 1 = omega arith in
        rw at_f (record {
          all_there = w.all_there;
          in_file = omega arith;
          begins = sym (next_sheet m s b.laid header) ∙ ap (file.sheet m) one;
          within = (bounds m s (sheet_stands m s b.laid header b.small)).within;
          long = simp length-set w.long;
          counts_are = below_more (λ g. get_or (set counts f s.arguments) g 0 ≡ file.arguments m g) f
              (λ g l. get_or-set_other counts f g s.arguments 0 (λ q. omega arith) ∙ w.counts_are g l)
              (get_or-set_same counts f s.arguments 0 (omega (arith, w.long, w.all_there, h.few_functions)) ∙ (b.laid.arguments_are ∙ ap (file.arguments m) named));
          same = w.same ∙ (run_left (checks.sheet_form version_1 m) f n tt lt ∙ goes _ _ (ap (λ x. checks.sheet_form version_1 m x tt) (sym named) ∙ e));
        })
