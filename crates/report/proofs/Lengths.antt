-- How long what is written is (01, 7.1, 7.2, 7.4): of each record, of a section by its counts, of the report by its
-- sections.
use Prim.Native.Nat.{ℕ, ◌+◌, ◌*◌}
use mathlib.Core.Path.{◌≡◌, refl, ◌∙◌}
use mathlib.Core.List.{List, [], ◌∷◌, ◌++◌, append_assoc}
use native.Mathlib.Omega.{arith}
use lib.ListN.{length}
use Rattle.definitions.specs.Bytes.{put16, put32}
use Rattle.definitions.specs.Limits.{Limits}
use Rattle.definitions.specs.Ends.{Pair}
use Rattle.definitions.specs.Summary.{Entry, Section}
use Rattle.definitions.specs.Report.{concat_map, pair_bytes, mixed_bytes, entry_bytes, section_bytes, report_header}
use Rattle.definitions.proofs.Reading.{concat_length, section_length}

pub length_put16 : (x : ℕ) → length (put16 x) ≡ 2
unfolding put16
length_put16 x = refl

pub length_put32 : (x : ℕ) → length (put32 x) ≡ 4
unfolding put32
length_put32 x = refl

pub length_pair : (p : Pair) → length (pair_bytes p) ≡ 4
unfolding pair_bytes put16
length_pair p = refl

pub length_mixed : (p : Pair) → length (mixed_bytes p) ≡ 6
unfolding mixed_bytes put16
length_mixed p = refl

pub length_entry : (e : Entry) → length (entry_bytes e) ≡ 9
unfolding entry_bytes put16 put32
length_entry e = refl

-- records that are all as long, one after another
pub length_all : {A : Type 0} (w : A → List ℕ) (size : ℕ) → ((x : A) → length (w x) ≡ size) → (xs : List A) → length (concat_map w xs) ≡ size * length xs
length_all w size h xs = concat_length w size h xs ∙ omega arith

-- 7.2 a section: 10 bytes, one for each global, 4 for each pair, 6 for each mixed pair, 9 for each expression
pub length_section : (y : Section) → length (section_bytes y)
    ≡ 10 + length y.summary.uses + 4 * length y.summary.lists.pairs + 6 * length y.summary.lists.mixed + 9 * length y.entries
length_section y = section_length y ∙ omega arith

-- 7.1 the header of the report
pub length_report_header : (L : Limits) (m : List ℕ) (n : ℕ) → length (report_header L m n) ≡ 9
unfolding report_header put16 put32
length_report_header L m n = refl

-- the bytes of two lists one after another
pub concat_map_append : {A : Type 0} (w : A → List ℕ) (xs ys : List A) → concat_map w (xs ++ ys) ≡ concat_map w xs ++ concat_map w ys
unfolding concat_map
concat_map_append w [] ys = refl
concat_map_append w (x ∷ xs) ys = rw (concat_map_append w xs ys) (rw append_assoc)
