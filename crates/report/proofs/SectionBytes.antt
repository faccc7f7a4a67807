-- A whole section from working memory (01, 6.2, 7.2): what is written part by part is the section of the definitions.
use Prim.Native.Nat.{ℕ, zero, suc, ◌+◌, ◌*◌, ◌<◌}
use mathlib.Core.Path.{◌≡◌, refl, ap, ◌∙◌, sym}
use mathlib.Core.List.{List, [], ◌∷◌, ◌++◌, map, append_assoc}
use native.Mathlib.Omega.{arith}
use lib.ListN.{length, length-append, length-map}
use Rattle.definitions.specs.Bytes.{byte, put16, range}
use Rattle.definitions.specs.Module.{expressions}
use Rattle.definitions.specs.Origin.{origin_number}
use Rattle.definitions.specs.State.{unknown, known_of}
use Rattle.definitions.specs.Summary.{Entry}
use Rattle.definitions.specs.Walk.{Walked}
use Rattle.definitions.specs.Analyse.{entry_of, section_of}
use Rattle.definitions.specs.Report.{flag_byte, concat_map, records, pair_bytes, mixed_bytes, entry_bytes, section_header, section_bytes, r_mixed, r_entry}
use Rattle.vocabulary.specs.Said.{origin_said}
use Rattle.memory.specs.Layout.{uses_at, pairs_at, mixed_at}
use Rattle.memory.specs.View.{known_at, count_at, viewed}
use Rattle.memory.proofs.Records.{length_records, records_at}
use Rattle.report.specs.declared.Summary.{Summary}
use Rattle.report.specs.Sizes.{section_size}
use Rattle.report.specs.Laid.{BytesPut}
use Rattle.report.specs.Written.{full_shape, section_from, written}
use Rattle.report.proofs.Lengths.{length_put16, length_pair, length_mixed, length_all, length_section}
use Rattle.report.proofs.Writers.{put_then, put_same}

-- the section of the definitions is made of no more than this
pub section_is : (m : List ℕ) (f : ℕ) (w : Walked)
    → section_of m f w ≡ section_from (expressions m f) w.outcome.origin w.outcome.requirements w.outcome.may_kill w.state
unfolding section_of section_from
section_is m f w = refl

-- and so is what is written, where working memory stands for the state and y says what the outcome does
pub section_written : (m : List ℕ) (f : ℕ) (a : Walked) (y : Summary) (w : List ℕ) (g e p k : ℕ) → e ≡ expressions m f → viewed (full_shape g e p k) w ≡ a.state
    → origin_said y.origin ≡ a.outcome.origin → y.requirements.0 ≡ a.outcome.requirements → y.may_kill ≡ a.outcome.may_kill
    → written y w g e p k ≡ section_of m f a
unfolding written
section_written m f a y w g e p k he hs ho hr hk = rw (hs, ho, hr, hk, he) (sym (section_is m f a))

pub length_range : (i n : ℕ) → length (range i n) ≡ n
unfolding range
length_range i zero = refl
length_range i (suc n) = ap suc (length_range (suc i) n)

-- something of each number of a range, which is the record of that number
map_records : {A : Type 0} (f : ℕ → A) (one : List ℕ → ℕ → A) (size : ℕ) (w : List ℕ) (i n p : ℕ) → ((k : ℕ) → k < n → f (i + k) ≡ one w (p + size * k))
    → map f (range i n) ≡ records one size w p n
unfolding range records
map_records f one size w i zero p h = refl
map_records f one size w i (suc n) p h =
    let x : f i ≡ one w p = ap f (omega arith) ∙ h 0 (omega arith) ∙ ap (one w) (omega arith) in
    let y : map f (range (suc i) n) ≡ records one size w (p + size) n =
    map_records f one size w (suc i) n (p + size) (λ k lt. ap f (omega arith) ∙ h (suc k) (omega arith) ∙ ap (one w) (omega arith)) in
    cc

-- 3.1 what is known of expression e once all are known, with its count, is the record of e
pub entries_are : (w : List ℕ) (g e p m : ℕ) → map (entry_of (viewed (full_shape g e p m) w)) (range 0 e) ≡ records r_entry 9 w 0 e
unfolding entry_of known_of viewed full_shape r_entry known_at count_at
entries_are w g e p m = map_records (entry_of (viewed (full_shape g e p m) w)) r_entry 9 w 0 e 0 (λ k lt.
    let i : 0 + k ≡ k = omega arith in
    ap (entry_of (viewed (full_shape g e p m) w)) i
    ∙ entry_path (records_at known_at 9 w 0 e k unknown lt) (records_at count_at 9 w 0 e k 0 lt))
  where
    entry_path : {x y : Entry} → x.known ≡ y.known → x.count ≡ y.count → x ≡ y
    entry_path a b = λ i. record { known = a i; count = b i }

-- the first ten bytes: what the summary says, then the counts
abbrev summary_bytes : Summary → List ℕ
summary_bytes y = put16 (origin_number (origin_said y.origin)) ++ (y.requirements.0 ∷ flag_byte y.may_kill ∷ [])

abbrev count_bytes : ℕ → ℕ → ℕ → List ℕ
count_bytes e p m = put16 e ++ put16 p ++ put16 m

header_parts : (y : Summary) (w : List ℕ) (g e p m : ℕ) → summary_bytes y ++ count_bytes e p m ≡ section_header (written y w g e p m)
unfolding section_header written section_from viewed full_shape
header_parts y w g e p m =
    let ne : length (map (entry_of (viewed (full_shape g e p m) w)) (range 0 e)) ≡ e = length-map (range 0 e) (entry_of (viewed (full_shape g e p m) w)) ∙ length_range 0 e in
    let np : length (records r_mixed 6 w pairs_at p) ≡ p = length_records r_mixed 6 w pairs_at p in
    let nm : length (records r_mixed 6 w mixed_at m) ≡ m = length_records r_mixed 6 w mixed_at m in
    rw (ne, np, nm) (simp append_assoc)

regroup : (a b c d e : List ℕ) → a ++ b ++ c ++ d ++ e ≡ a ++ (b ++ (c ++ (d ++ e)))
regroup a b c d e = simp append_assoc

section_parts : (y : Summary) (w : List ℕ) (g e p m : ℕ)
    → summary_bytes y ++ count_bytes e p m ++ records byte 1 w uses_at g ++ concat_map pair_bytes (records r_mixed 6 w pairs_at p)
    ++ concat_map mixed_bytes (records r_mixed 6 w mixed_at m) ++ concat_map entry_bytes (records r_entry 9 w 0 e)
    ≡ section_bytes (written y w g e p m)
unfolding section_bytes written section_from viewed full_shape
section_parts y w g e p m =
    ap (λ (h : List ℕ). h ++ records byte 1 w uses_at g ++ concat_map pair_bytes (records r_mixed 6 w pairs_at p)
    ++ concat_map mixed_bytes (records r_mixed 6 w mixed_at m) ++ concat_map entry_bytes (records r_entry 9 w 0 e)) (header_parts y w g e p m)
    ∙ ap (λ (es : List Entry). section_header (written y w g e p m) ++ records byte 1 w uses_at g ++ concat_map pair_bytes (records r_mixed 6 w pairs_at p)
    ++ concat_map mixed_bytes (records r_mixed 6 w mixed_at m) ++ concat_map entry_bytes es) (sym (entries_are w g e p m))
    ∙ regroup (section_header (written y w g e p m)) (records byte 1 w uses_at g) (concat_map pair_bytes (records r_mixed 6 w pairs_at p))
    (concat_map mixed_bytes (records r_mixed 6 w mixed_at m)) (concat_map entry_bytes (map (entry_of (viewed (full_shape g e p m) w)) (range 0 e)))

-- the six writers of a section, one after another; its uses begin at u, its pairs at v
pub section_put : (y : Summary) (w l l₁ l₂ l₃ l₄ l₅ l₆ : List ℕ) (at u v g e p m : ℕ) → u ≡ at + 10 → v ≡ at + 10 + g
    → BytesPut l l₁ at (put16 (origin_number (origin_said y.origin)) ++ (y.requirements.0 ∷ flag_byte y.may_kill ∷ []))
    → BytesPut l₁ l₂ (at + 4) (put16 e ++ put16 p ++ put16 m)
    → BytesPut l₂ l₃ u (records byte 1 w uses_at g)
    → BytesPut l₃ l₄ v (concat_map pair_bytes (records r_mixed 6 w pairs_at p))
    → BytesPut l₄ l₅ (v + 4 * p) (concat_map mixed_bytes (records r_mixed 6 w mixed_at m))
    → BytesPut l₅ l₆ (v + 4 * p + 6 * m) (concat_map entry_bytes (records r_entry 9 w 0 e))
    → BytesPut l l₆ at (section_bytes (written y w g e p m))
section_put y w l l₁ l₂ l₃ l₄ l₅ l₆ at u v g e p m eu ev h₁ h₂ h₃ h₄ h₅ h₆ =
    let S = summary_bytes y in
    let C = count_bytes e p m in
    let U = records byte 1 w uses_at g in
    let P = concat_map pair_bytes (records r_mixed 6 w pairs_at p) in
    let M = concat_map mixed_bytes (records r_mixed 6 w mixed_at m) in
    let E = concat_map entry_bytes (records r_entry 9 w 0 e) in
    let nS : length S ≡ 4 = simp length-append (omega (arith, length_put16 (origin_number (origin_said y.origin)))) in
    let nC : length C ≡ 6 = simp length-append (omega (arith, length_put16 e, length_put16 p, length_put16 m)) in
    let nU : length U ≡ g = length_records byte 1 w uses_at g in
    let nP : length P ≡ 4 * p = length_all pair_bytes 4 length_pair (records r_mixed 6 w pairs_at p) ∙ ap (λ (n : ℕ). 4 * n) (length_records r_mixed 6 w pairs_at p) in
    let nM : length M ≡ 6 * m = length_all mixed_bytes 6 length_mixed (records r_mixed 6 w mixed_at m) ∙ ap (λ (n : ℕ). 6 * n) (length_records r_mixed 6 w mixed_at m) in
    let a₂ : at + length S ≡ at + 4 = ap (λ (n : ℕ). at + n) nS in
    let a₃ : at + length (S ++ C) ≡ u = rw (length-append S C, nS, nC) (omega arith) in
    let a₄ : at + length (S ++ C ++ U) ≡ v = rw (length-append (S ++ C) U, length-append S C, nS, nC, nU) (omega arith) in
    let a₅ : at + length (S ++ C ++ U ++ P) ≡ v + 4 * p = rw (length-append (S ++ C ++ U) P, length-append (S ++ C) U, length-append S C, nS, nC, nU, nP) (omega arith) in
    let a₆ : at + length (S ++ C ++ U ++ P ++ M) ≡ v + 4 * p + 6 * m =
    rw (length-append (S ++ C ++ U ++ P) M, length-append (S ++ C ++ U) P, length-append (S ++ C) U, length-append S C, nS, nC, nU, nP, nM) (omega arith) in
    put_same (section_parts y w g e p m)
    (put_then (S ++ C ++ U ++ P ++ M) E a₆
    (put_then (S ++ C ++ U ++ P) M a₅
    (put_then (S ++ C ++ U) P a₄
    (put_then (S ++ C) U a₃
    (put_then S C a₂ h₁ h₂) h₃) h₄) h₅) h₆)

-- 7.2 the section is as long as its counts say
pub length_written : (y : Summary) (w : List ℕ) (g e p m : ℕ) → length (section_bytes (written y w g e p m)) ≡ section_size g e p m
unfolding written section_from viewed full_shape
length_written y w g e p m =
    length_section (written y w g e p m)
    ∙ omega (arith, length_records byte 1 w uses_at g, length_records r_mixed 6 w pairs_at p, length_records r_mixed 6 w mixed_at m, length_entries)
  where
    length_entries : length (written y w g e p m).entries ≡ e
    length_entries = length-map (range 0 e) _ ∙ length_range 0 e
