-- Bytes that stand somewhere read back as what was written: numbers, records, a section, and with it all that a caller sees of a function.
use Prim.Native.Nat.{ℕ, zero, suc, ◌+◌, ◌*◌, ◌/◌, ◌%◌, ◌≤◌, ◌<◌}
use native.Mathlib.Omega.{arith}
use native.Mathlib.Nat.{suc-mul}
use mathlib.Core.List.{List, [], ◌∷◌, ◌++◌}
use mathlib.Core.Path.{◌≡◌, refl, sym, ap, ◌∙◌, subst}
use mathlib.Core.Logic.{inl, inr}
use mathlib.Core.Bool.{Bool, true, false}
use mathlib.Core.Option.{Option, none, some}
use lib.Dec.{eqb, lit<}
use lib.ListN.{length, get_or, length-append, get_or-append}
use lib.Seq.{get_or-append-add}
use borrow.Author.Tests.{ne_eqb}
use Rattle.definitions.specs.Bytes.{byte, be16, be32, put16, put32}
use Rattle.definitions.specs.Module.{absent}
use Rattle.definitions.specs.Origin.{Origin, nowhere, from_expression, origin_number, origin_from}
use Rattle.definitions.specs.Ends.{End, glob, arg, Pair, is_global, both_global}
use Rattle.definitions.specs.Summary.{Entry, Section}
use Rattle.definitions.specs.Report.{flag_byte, tag, end_number, global_number, concat_map, pair_bytes, mixed_bytes, entry_bytes, section_header, section_bytes, r_origin, r_requirements, r_may_kill, r_expressions, r_pair_count, r_mixed_count, r_pairs_at, r_mixed_at, r_entries_at, r_section_end, end_from, global_from, r_pair, r_mixed, r_entry, records, r_lists, r_summary, r_section}
use Rattle.definitions.specs.Chains.{Mem}
use Rattle.definitions.proofs.Order.{and_true, pair_path}

-- the bytes ys stand in b from p on
unfoldable pub Stands : List ℕ → ℕ → List ℕ → Type 0
Stands b p ys = (k : ℕ) → k < length ys → byte b (p + k) ≡ byte ys k

pub stands_left : (b : List ℕ) (p : ℕ) (xs ys : List ℕ) → Stands b p (xs ++ ys) → Stands b p xs
unfolding Stands byte
stands_left b p xs ys h k lt = let n = length-append xs ys in h k (omega arith) ∙ get_or-append xs ys 0 k lt

pub stands_right : (b : List ℕ) (p : ℕ) (xs ys : List ℕ) → Stands b p (xs ++ ys) → Stands b (p + length xs) ys
unfolding Stands byte
stands_right b p xs ys h k lt =
    let n = length-append xs ys in
    let q : p + length xs + k ≡ p + (length xs + k) = omega arith in
    ap (λ i. get_or b i 0) q ∙ (h (length xs + k) (omega arith) ∙ get_or-append-add xs ys k 0)

-- all of a list stands in itself, and a part of it where the parts before it end
pub stands_self : (b : List ℕ) → Stands b 0 b
unfolding Stands
stands_self b k lt = let z : 0 + k ≡ k = omega arith in ap (byte b) z

stands_at : (b : List ℕ) (p q : ℕ) (ys : List ℕ) → p ≡ q → Stands b p ys → Stands b q ys
stands_at b p q ys e h = subst (λ v. Stands b v ys) e h

stands_byte : (b : List ℕ) (p x : ℕ) (ys : List ℕ) → Stands b p (x ∷ ys) → byte b p ≡ x
unfolding Stands byte
stands_byte b p x ys h = let z : p ≡ p + 0 = omega arith in ap (byte b) z ∙ h 0 (omega arith)

stands_next : (b : List ℕ) (p x : ℕ) (ys : List ℕ) → Stands b p (x ∷ ys) → Stands b (p + 1) ys
unfolding Stands byte
stands_next b p x ys h k lt = let q : p + 1 + k ≡ p + suc k = omega arith in ap (byte b) q ∙ h (suc k) (omega arith)

pub stands_16 : (b : List ℕ) (p x : ℕ) → Stands b p (put16 x) → be16 b p ≡ x
unfolding put16 be16
stands_16 b p x h =
    let y = stands_byte b p _ _ h in
    let z = stands_byte b (p + 1) _ _ (stands_next b p _ _ h) in
    omega arith

pub stands_32 : (b : List ℕ) (p x : ℕ) → Stands b p (put32 x) → be32 b p ≡ x
unfolding put32 be32 be16
stands_32 b p x h =
    let h₁ = stands_next b p _ _ h in
    let h₂ = stands_next b (p + 1) _ _ h₁ in
    let h₃ = stands_next b (p + 1 + 1) _ _ h₂ in
    let y₀ = stands_byte b p _ _ h in
    let y₁ = stands_byte b (p + 1) _ _ h₁ in
    let e₂ : p + 1 + 1 ≡ p + 2 = omega arith in
    let e₃ : p + 1 + 1 + 1 ≡ p + 2 + 1 = omega arith in
    let y₂ : byte b (p + 2) ≡ x / 256 % 256 = ap (byte b) (sym e₂) ∙ stands_byte b (p + 1 + 1) _ _ h₂ in
    let y₃ : byte b (p + 2 + 1) ≡ x % 256 = ap (byte b) (sym e₃) ∙ stands_byte b (p + 1 + 1 + 1) _ _ h₃ in
    omega arith

-- a number inside what stands: the bytes ys from their k-th on
byte_at : (b : List ℕ) (p : ℕ) (ys : List ℕ) → Stands b p ys → (k : ℕ) → k < length ys → byte b (p + k) ≡ byte ys k
unfolding Stands
byte_at b p ys h k lt = h k lt

word_at : (b : List ℕ) (p : ℕ) (ys : List ℕ) → Stands b p ys → (k x : ℕ) → suc k < length ys → byte ys k ≡ x / 256 → byte ys (suc k) ≡ x % 256 → be16 b (p + k) ≡ x
unfolding be16
word_at b p ys h k x lt u v =
    let y = byte_at b p ys h k (omega arith) ∙ u in
    let q : p + k + 1 ≡ p + suc k = omega arith in
    let z : byte b (p + k + 1) ≡ x % 256 = ap (byte b) q ∙ (byte_at b p ys h (suc k) lt ∙ v) in
    omega arith

first_word : (b : List ℕ) (p : ℕ) (ys : List ℕ) → Stands b p ys → (x : ℕ) → 1 < length ys → byte ys 0 ≡ x / 256 → byte ys 1 ≡ x % 256 → be16 b p ≡ x
first_word b p ys h x lt u v = let z : p ≡ p + 0 = omega arith in ap (be16 b) z ∙ word_at b p ys h 0 x lt u v

-- none, or a number below n
abbrev pub OriginBelow : ℕ → Origin → Type 0
OriginBelow n nowhere = Unit {0}
OriginBelow n (from_expression e) = e < n

abbrev pub GlobalBelow : ℕ → Option ℕ → Type 0
GlobalBelow n none = Unit {0}
GlobalBelow n (some g) = g < n

-- what 65535 does not stand for
abbrev pub Numbered : Origin → Type 0
Numbered o = OriginBelow 65535 o

abbrev pub GlobalNumbered : Option ℕ → Type 0
GlobalNumbered g = GlobalBelow 65535 g

pub origin_back : (o : Origin) → Numbered o → origin_from (origin_number o) ≡ o
unfolding origin_from origin_number absent
origin_back nowhere h = refl
origin_back (from_expression e) h = rw (ne_eqb e 65535 (λ q. omega arith))

pub global_back : (g : Option ℕ) → GlobalNumbered g → global_from (global_number g) ≡ g
unfolding global_from global_number absent
global_back none h = refl
global_back (some g) h = rw (ne_eqb g 65535 (λ q. omega arith))

-- records of one size, one after another
records_back : {A : Type 0} (wr : A → List ℕ) (rd : List ℕ → ℕ → A) (size : ℕ) (Good : A → Type 0)
    → ((x : A) → length (wr x) ≡ size) → ((b : List ℕ) (p : ℕ) (x : A) → Good x → Stands b p (wr x) → rd b p ≡ x)
    → (b : List ℕ) (p : ℕ) (xs : List A) → ((x : A) → Mem x xs → Good x) → Stands b p (concat_map wr xs) → records rd size b p (length xs) ≡ xs
unfolding concat_map records
records_back wr rd size Good len back b p [] good h = refl
records_back wr rd size Good len back b p (x ∷ xs) good h =
    let head = back b p x (good x (inl refl)) (stands_left b p (wr x) (concat_map wr xs) h) in
    let q : p + length (wr x) ≡ p + size = ap (λ n. p + n) (len x) in
    let tail = records_back wr rd size Good len back b (p + size) xs (λ y m. good y (inr m)) (stands_at b _ _ _ q (stands_right b p (wr x) (concat_map wr xs) h)) in
    ap (λ v. v ∷ records rd size b (p + size) (length xs)) head ∙ ap (λ l. x ∷ l) tail

pub concat_length : {A : Type 0} (wr : A → List ℕ) (size : ℕ) → ((x : A) → length (wr x) ≡ size) → (xs : List A) → length (concat_map wr xs) ≡ length xs * size
unfolding concat_map
concat_length wr size len [] = omega arith
concat_length wr size len (x ∷ xs) =
    let a = len x in
    let ih = concat_length wr size len xs in
    let m = suc-mul (length xs) size in
    length-append (wr x) (concat_map wr xs) ∙ omega arith

pair_length : (x : Pair) → length (pair_bytes x) ≡ 4
unfolding pair_bytes put16
pair_length x = refl

mixed_length : (x : Pair) → length (mixed_bytes x) ≡ 6
unfolding mixed_bytes put16
mixed_length x = refl

entry_length : (x : Entry) → length (entry_bytes x) ≡ 9
unfolding entry_bytes put16 put32
entry_length x = refl

global_end : (x : End) → is_global x ≡ true → glob (end_number x) ≡ x
unfolding end_number is_global
global_end (glob g) h = refl
global_end (arg a) h = cc

pair_back : (b : List ℕ) (p : ℕ) (x : Pair) → both_global x ≡ true → Stands b p (pair_bytes x) → r_pair b p ≡ x
unfolding r_pair pair_bytes put16 both_global byte
pair_back b p x g h =
    let k = and_true (is_global x.image) (is_global x.sampler) g in
    pair_path
    (ap glob (first_word b p _ h (end_number x.image) (lit< tt) refl refl) ∙ global_end x.image k.0)
    (ap glob (word_at b p _ h 2 (end_number x.sampler) (lit< tt) refl refl) ∙ global_end x.sampler k.1)

end_back : (x : End) → end_from (tag x) (end_number x) ≡ x
unfolding end_from tag end_number
end_back (glob g) = refl
end_back (arg a) = refl

end_read : (x : End) (t n : ℕ) → t ≡ tag x → n ≡ end_number x → end_from t n ≡ x
end_read x t n h k = ap (λ v. end_from v n) h ∙ (ap (end_from (tag x)) k ∙ end_back x)

mixed_back : (b : List ℕ) (p : ℕ) (x : Pair) → Unit {0} → Stands b p (mixed_bytes x) → r_mixed b p ≡ x
unfolding r_mixed mixed_bytes put16 byte
mixed_back b p x g h =
    let z : p ≡ p + 0 = omega arith in
    pair_path
    (end_read x.image _ _ (ap (byte b) z ∙ byte_at b p _ h 0 (lit< tt)) (word_at b p _ h 2 (end_number x.image) (lit< tt) refl refl))
    (end_read x.sampler _ _ (byte_at b p _ h 1 (lit< tt)) (word_at b p _ h 4 (end_number x.sampler) (lit< tt) refl refl))

-- 7.4 a tag is 0 or 1
pub tag_low : (x : End) → tag x ≤ 1
unfolding tag
tag_low (glob g) = omega arith
tag_low (arg a) = omega arith

tags_low : (b : List ℕ) (p : ℕ) (xs : List Pair) → Stands b p (concat_map mixed_bytes xs) → (i : ℕ) → i < length xs → (byte b (p + 6 * i) ≤ 1) × (byte b (p + 6 * i + 1) ≤ 1)
unfolding concat_map mixed_bytes put16 byte
tags_low b p [] h i lt = absurd (omega arith)
tags_low b p (x ∷ xs) h zero lt =
    let here = stands_left b p (mixed_bytes x) (concat_map mixed_bytes xs) h in
    let z : p + 6 * 0 ≡ p + 0 = omega arith in
    let w : p + 6 * 0 + 1 ≡ p + 1 = omega arith in
    let u = ap (byte b) z ∙ byte_at b p _ here 0 (lit< tt) in
    let v = ap (byte b) w ∙ byte_at b p _ here 1 (lit< tt) in
    let i = tag_low x.image in
    let s = tag_low x.sampler in
    (omega arith, omega arith)
tags_low b p (x ∷ xs) h (suc i) lt =
    let q : p + length (mixed_bytes x) ≡ p + 6 = ap (λ n. p + n) (mixed_length x) in
    let e : p + 6 + 6 * i ≡ p + 6 * suc i = omega arith in
    let r = tags_low b (p + 6) xs (stands_at b _ _ _ q (stands_right b p (mixed_bytes x) (concat_map mixed_bytes xs) h)) i (omega arith) in
    subst (λ k. (byte b k ≤ 1) × (byte b (k + 1) ≤ 1)) e r

unfoldable pub EntryNumbered : Entry → Type 0
EntryNumbered e = Numbered e.known.origin × GlobalNumbered e.known.assignable

long_at : (b : List ℕ) (p : ℕ) (ys : List ℕ) → Stands b p ys → (k x : ℕ) → suc (suc (suc k)) < length ys
    → byte ys k ≡ x / 16777216 → byte ys (suc k) ≡ x / 65536 % 256 → byte ys (suc (suc k)) ≡ x / 256 % 256 → byte ys (suc (suc (suc k))) ≡ x % 256 → be32 b (p + k) ≡ x
unfolding be32 be16
long_at b p ys h k x lt u₀ u₁ u₂ u₃ =
    let q₁ : p + k + 1 ≡ p + suc k = omega arith in
    let q₂ : p + k + 2 ≡ p + suc (suc k) = omega arith in
    let q₃ : p + k + 2 + 1 ≡ p + suc (suc (suc k)) = omega arith in
    let y₀ : byte b (p + k) ≡ x / 16777216 = byte_at b p ys h k (omega arith) ∙ u₀ in
    let y₁ : byte b (p + k + 1) ≡ x / 65536 % 256 = ap (byte b) q₁ ∙ (byte_at b p ys h (suc k) (omega arith) ∙ u₁) in
    let y₂ : byte b (p + k + 2) ≡ x / 256 % 256 = ap (byte b) q₂ ∙ (byte_at b p ys h (suc (suc k)) (omega arith) ∙ u₂) in
    let y₃ : byte b (p + k + 2 + 1) ≡ x % 256 = ap (byte b) q₃ ∙ (byte_at b p ys h (suc (suc (suc k))) lt ∙ u₃) in
    omega arith

entry_path : (x : Entry) (o : Origin) (r : ℕ) (g : Option ℕ) (c : ℕ) → o ≡ x.known.origin → r ≡ x.known.requirements → g ≡ x.known.assignable → c ≡ x.count
    → record { known = record { origin = o; requirements = r; assignable = g }; count = c } ≡ x
entry_path x o r g c p q s t = λ i. record { known = record { origin = p i; requirements = q i; assignable = s i }; count = t i }

entry_back : (b : List ℕ) (p : ℕ) (x : Entry) → EntryNumbered x → Stands b p (entry_bytes x) → r_entry b p ≡ x
unfolding r_entry entry_bytes put16 put32 byte EntryNumbered
entry_back b p x g h =
    entry_path x _ _ _ _
    (ap origin_from (first_word b p _ h (origin_number x.known.origin) (lit< tt) refl refl) ∙ origin_back x.known.origin g.0)
    (byte_at b p _ h 2 (lit< tt))
    (ap global_from (word_at b p _ h 7 (global_number x.known.assignable) (lit< tt) refl refl) ∙ global_back x.known.assignable g.1)
    (long_at b p _ h 3 x.count (lit< tt) refl refl refl refl)

byte_back : (b : List ℕ) (p x : ℕ) → Unit {0} → Stands b p (x ∷ []) → byte b p ≡ x
byte_back b p x g h = stands_byte b p x [] h

bytes_alone : (xs : List ℕ) → concat_map (λ x. x ∷ []) xs ≡ xs
unfolding concat_map
bytes_alone [] = refl
bytes_alone (x ∷ xs) = ap (λ l. x ∷ l) (bytes_alone xs)

-- what a section must be to read back: numbers that are not 65535, and pairs of globals in the list of pairs
pub record Readable (y : Section) : Type 0 where
  pub origin_numbered : Numbered y.summary.origin
  pub pairs_global : (x : Pair) → Mem x y.summary.lists.pairs → both_global x ≡ true
  pub entries_numbered : (x : Entry) → Mem x y.entries → EntryNumbered x

header_length : (y : Section) → length (section_header y) ≡ 10
unfolding section_header put16
header_length y = refl

pub section_length : (y : Section) → length (section_bytes y)
    ≡ 10 + length y.summary.uses + length y.summary.lists.pairs * 4 + length y.summary.lists.mixed * 6 + length y.entries * 9
unfolding section_bytes
section_length y =
    let u = y.summary.uses in
    let ps = concat_map pair_bytes y.summary.lists.pairs in
    let ms = concat_map mixed_bytes y.summary.lists.mixed in
    let es = concat_map entry_bytes y.entries in
    let a = length-append (section_header y) (u ++ (ps ++ (ms ++ es))) in
    let b = length-append u (ps ++ (ms ++ es)) in
    let c = length-append ps (ms ++ es) in
    let d = length-append ms es in
    let h = header_length y in
    let p = concat_length pair_bytes 4 pair_length y.summary.lists.pairs in
    let q = concat_length mixed_bytes 6 mixed_length y.summary.lists.mixed in
    let r = concat_length entry_bytes 9 entry_length y.entries in
    omega arith

-- a section that stands at p of b
module _ (b : List ℕ) (p : ℕ) (y : Section) (h : Stands b p (section_bytes y)) where
  -- the number of globals
  abbrev pub g : ℕ
  g = length y.summary.uses

  ps : List ℕ
  ps = concat_map pair_bytes y.summary.lists.pairs

  ms : List ℕ
  ms = concat_map mixed_bytes y.summary.lists.mixed

  es : List ℕ
  es = concat_map entry_bytes y.entries

  header_stands : Stands b p (section_header y)
  unfolding section_bytes
  header_stands = stands_left b p (section_header y) _ h

  uses_stand : Stands b (p + 10) (y.summary.uses ++ (ps ++ (ms ++ es)))
  unfolding section_bytes ps ms es
  uses_stand = stands_at b _ _ _ (ap (λ n. p + n) (header_length y)) (stands_right b p (section_header y) _ h)

  pairs_stand : Stands b (p + 10 + g) (ps ++ (ms ++ es))
  pairs_stand = stands_right b (p + 10) y.summary.uses _ uses_stand

  pub reads_expressions : r_expressions b p ≡ length y.entries
  unfolding r_expressions section_header put16 byte
  reads_expressions = word_at b p _ header_stands 4 (length y.entries) (lit< tt) refl refl

  pub reads_pair_count : r_pair_count b p ≡ length y.summary.lists.pairs
  unfolding r_pair_count section_header put16 byte
  reads_pair_count = word_at b p _ header_stands 6 (length y.summary.lists.pairs) (lit< tt) refl refl

  pub reads_mixed_count : r_mixed_count b p ≡ length y.summary.lists.mixed
  unfolding r_mixed_count section_header put16 byte
  reads_mixed_count = word_at b p _ header_stands 8 (length y.summary.lists.mixed) (lit< tt) refl refl

  mixed_stand : Stands b (r_mixed_at g b p) (ms ++ es)
  unfolding r_mixed_at r_pairs_at ps
  mixed_stand =
      let n = concat_length pair_bytes 4 pair_length y.summary.lists.pairs in
      let k = reads_pair_count in
      let q : p + 10 + g + length ps ≡ p + 10 + g + 4 * r_pair_count b p = omega arith in
      stands_at b _ _ _ q (stands_right b (p + 10 + g) ps (ms ++ es) pairs_stand)

  entries_stand : Stands b (r_entries_at g b p) es
  unfolding r_entries_at ms
  entries_stand =
      let n = concat_length mixed_bytes 6 mixed_length y.summary.lists.mixed in
      let k = reads_mixed_count in
      let q : r_mixed_at g b p + length ms ≡ r_mixed_at g b p + 6 * r_mixed_count b p = omega arith in
      stands_at b _ _ _ q (stands_right b (r_mixed_at g b p) ms es mixed_stand)

  pub reads_end : r_section_end g b p ≡ p + length (section_bytes y)
  unfolding r_section_end r_entries_at r_mixed_at r_pairs_at
  reads_end =
      let a = reads_pair_count in
      let c = reads_mixed_count in
      let d = reads_expressions in
      let l = section_length y in
      omega arith

  pub reads_origin : Numbered y.summary.origin → r_origin b p ≡ y.summary.origin
  unfolding r_origin section_header put16 byte
  reads_origin k = ap origin_from (first_word b p _ header_stands (origin_number y.summary.origin) (lit< tt) refl refl) ∙ origin_back y.summary.origin k

  pub reads_requirements : r_requirements b p ≡ y.summary.requirements
  unfolding r_requirements section_header put16 byte
  reads_requirements = byte_at b p _ header_stands 2 (lit< tt)

  flag_back : (f : Bool) → eqb (flag_byte f) 1 ≡ f
  unfolding flag_byte
  flag_back true = refl
  flag_back false = refl

  pub reads_flag : byte b (p + 3) ≡ flag_byte y.summary.may_kill
  unfolding section_header put16 byte
  reads_flag = byte_at b p _ header_stands 3 (lit< tt)

  pub reads_may_kill : r_may_kill b p ≡ y.summary.may_kill
  unfolding r_may_kill
  reads_may_kill = ap (λ x. eqb x 1) reads_flag ∙ flag_back y.summary.may_kill

  pub reads_uses : records byte 1 b (p + 10) g ≡ y.summary.uses
  reads_uses =
      records_back (λ x. x ∷ []) byte 1 (λ x. Unit {0}) (λ x. refl) byte_back b (p + 10) y.summary.uses (λ x k. tt)
      (subst (Stands b (p + 10)) (sym (bytes_alone y.summary.uses)) (stands_left b (p + 10) y.summary.uses _ uses_stand))

  -- 7.4 both tags of a mixed pair
  pub reads_tags : (i : ℕ) → i < length y.summary.lists.mixed → (byte b (r_mixed_at g b p + 6 * i) ≤ 1) × (byte b (r_mixed_at g b p + 6 * i + 1) ≤ 1)
  unfolding ms
  reads_tags i lt = tags_low b (r_mixed_at g b p) y.summary.lists.mixed (stands_left b (r_mixed_at g b p) ms es mixed_stand) i lt

  pub reads_lists : ((x : Pair) → Mem x y.summary.lists.pairs → both_global x ≡ true) → r_lists g b p ≡ y.summary.lists
  unfolding r_lists r_pairs_at ps ms
  reads_lists k = λ i. record {
    pairs = (ap (records r_pair 4 b (p + 10 + g)) reads_pair_count
        ∙ records_back pair_bytes r_pair 4 (λ x. both_global x ≡ true) pair_length pair_back b (p + 10 + g) y.summary.lists.pairs k (stands_left b (p + 10 + g) ps _ pairs_stand)) i;
    mixed = (ap (records r_mixed 6 b (r_mixed_at g b p)) reads_mixed_count
        ∙ records_back mixed_bytes r_mixed 6 (λ x. Unit {0}) mixed_length mixed_back b (r_mixed_at g b p) y.summary.lists.mixed (λ x q. tt) (stands_left b (r_mixed_at g b p) ms es mixed_stand)) i;
  }

  -- all that a caller sees of a function is read from its section
  pub reads_summary : Numbered y.summary.origin → ((x : Pair) → Mem x y.summary.lists.pairs → both_global x ≡ true) → r_summary g b p ≡ y.summary
  unfolding r_summary
  reads_summary n k = λ i. record {
    origin = reads_origin n i;
    requirements = reads_requirements i;
    may_kill = reads_may_kill i;
    uses = reads_uses i;
    lists = reads_lists k i;
  }

  pub reads_section : Readable y → r_section g b p ≡ y
  unfolding r_section es
  reads_section r = λ i. record {
    summary = reads_summary r.origin_numbered r.pairs_global i;
    entries = (ap (records r_entry 9 b (r_entries_at g b p)) reads_expressions
        ∙ records_back entry_bytes r_entry 9 EntryNumbered entry_length entry_back b (r_entries_at g b p) y.entries r.entries_numbered entries_stand) i;
  }
