-- Where sections that stand one after another begin (01, 7.1): each where the one before it ends, and where the
-- accessors look for it. What is asked of the bytes before and behind them is nothing, so this holds of a whole
-- report and of what is written of it so far.
use Prim.Native.Nat.{ℕ, suc, ◌+◌, ◌<◌, ◌≤◌}
use mathlib.Core.Path.{◌≡◌, refl, ap, ◌∙◌, sym}
use mathlib.Core.List.{List, [], ◌∷◌, ◌++◌, map}
use native.Mathlib.Omega.{arith}
use lib.ListN.{length, get_or, take, drop, length-append, take-append-drop}
use lib.Seq.{take-append-le, take-length}
use Rattle.definitions.specs.Bytes.{range}
use Rattle.definitions.specs.Limits.{Limits, Sound}
use Rattle.definitions.specs.Module.{globals, functions}
use Rattle.definitions.specs.Checks.{fine}
use Rattle.definitions.specs.Summary.{Section, no_section}
use Rattle.definitions.specs.Report.{concat_map, section_bytes, r_section, r_section_at}
use Rattle.definitions.specs.Analyse.{sections}
use Rattle.definitions.proofs.Formed.{Formed}
use Rattle.definitions.proofs.Modules.{done_length}
use Rattle.definitions.proofs.Numbering.{sections_read}
use Rattle.definitions.proofs.Reading.{Stands}
use Rattle.definitions.proofs.Reports.{next_section, reads_so_far}
use Rattle.memory.specs.Changes.{section_at, told}
use Rattle.report.specs.Places.{section_place}
use Rattle.report.proofs.Lengths.{concat_map_append}

-- sections more move none of those before them
pub place_kept : (ys zs : List Section) (f : ℕ) → f ≤ length ys → section_place (ys ++ zs) f ≡ section_place ys f
unfolding section_place
place_kept ys zs f le = rw (take-append-le f ys zs le)

pub place_last : (ys : List Section) → section_place ys (length ys) ≡ 9 + length (concat_map section_bytes ys)
unfolding section_place
place_last ys = rw (take-length ys)

-- the accessors find the same places
pub place_read : (b : List ℕ) (g : ℕ) (ys : List Section) → Stands b 9 (concat_map section_bytes ys)
    → ((f : ℕ) → f < length ys → length (get_or ys f no_section).summary.uses ≡ g) → (f : ℕ) → f ≤ length ys → r_section_at g b f ≡ section_place ys f
unfolding section_place
place_read b g ys h t f le =
    let cut : length (concat_map section_bytes ys) ≡ length (concat_map section_bytes (take f ys)) + length (concat_map section_bytes (drop f ys)) =
    ap (λ (l : List Section). length (concat_map section_bytes l)) (sym (take-append-drop f ys))
    ∙ ap length (concat_map_append section_bytes (take f ys) (drop f ys)) ∙ length-append (concat_map section_bytes (take f ys)) (concat_map section_bytes (drop f ys)) in
    omega (arith, cut, next_section b g ys h t f le)

map_list : {A : Type 0} (f : ℕ → A) (d : A) (xs : List A) (a : ℕ) → ((i : ℕ) → i < length xs → f (a + i) ≡ get_or xs i d) → map f (range a (length xs)) ≡ xs
unfolding range
map_list f d [] a h = refl
map_list f d (x ∷ xs) a h =
    let e : f a ≡ x = ap f (omega arith) ∙ h 0 (omega arith) in
    let r : map f (range (suc a) (length xs)) ≡ xs = map_list f d xs (suc a) (λ i lt. ap f (omega arith) ∙ h (suc i) (omega arith)) in
    cc

-- of the functions that are done so far
module _ (L : Limits) (sound : Sound L) (m : List ℕ) (formed : Formed L m) (n : ℕ) (some_functions : n ≤ functions m) (d : List Section)
    (by_rules : sections L m n ≡ fine d) (b : List ℕ) (standing : Stands b 9 (concat_map section_bytes d)) where
  found : (f : ℕ) → f < n → r_section_at (globals m) b f ≡ section_place d f
  found f h =
      let len = done_length L m n d by_rules in
      place_read b (globals m) d standing (λ k l. (sections_read L sound m formed n some_functions d by_rules k (omega arith)).a_use_each) f (omega arith)

  -- what a section says is read where it begins
  pub section_there : (f : ℕ) → f < n → r_section (globals m) b (section_place d f) ≡ get_or d f no_section
  section_there f h =
      ap (r_section (globals m) b) (sym (found f h)) ∙ reads_so_far L sound m formed n some_functions d by_rules b standing f h

  -- so are all of them, by a table that says where each begins
  pub sections_there : (at : ℕ → ℕ) → ((f : ℕ) → f < n → at f ≡ section_place d f) → map (λ f. r_section (globals m) b (at f)) (range 0 n) ≡ d
  sections_there at p =
      let len = done_length L m n d by_rules in
      ap (λ (k : ℕ). map (λ f. r_section (globals m) b (at f)) (range 0 k)) (sym len)
      ∙ map_list (λ f. r_section (globals m) b (at f)) no_section d 0 (λ i lt.
      let e : 0 + i ≡ i = omega arith in
      ap (λ (k : ℕ). r_section (globals m) b (at k)) e ∙ ap (r_section (globals m) b) (p i (omega arith)) ∙ section_there i (omega arith))

  -- as working memory keeps it
  pub told_there : (t : List ℕ) → ((f : ℕ) → f < n → section_at t f ≡ section_place d f) → told (globals m) b t n ≡ d
  unfolding told
  told_there t p = sections_there (section_at t) p
