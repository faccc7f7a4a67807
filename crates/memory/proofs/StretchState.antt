-- What stretches of bytes made anew are to the state: where a function begins, and a callee's uses joined. And the
-- table of sections.
use Prim.Native.Nat.{ℕ, zero, suc, ◌+◌, ◌*◌, ◌-◌, ◌<◌, ◌≤◌}
use native.Mathlib.Omega.{arith}
use mathlib.Core.Bool.{Bool, true, false}
use mathlib.Core.Logic.{◌⊎◌, inl, inr}
use mathlib.Core.Path.{◌≡◌, refl, ap, ◌∙◌, sym}
use mathlib.Core.List.{List, [], ◌∷◌}
use borrow.Author.Tests.{eqb-true, eqb-false}
use lib.Dec.{eqb}
use lib.ListN.{length, get_or, replicate, length-set}
use lib.Seq.{ext_get_or}
use Rattle.definitions.specs.Bytes.{byte, be16, be32, range}
use Rattle.definitions.specs.Module.{expressions, globals}
use Rattle.definitions.specs.Codes.{join}
use Rattle.definitions.specs.Checks.{through}
use Rattle.definitions.specs.Pairs.{no_pairs}
use Rattle.definitions.specs.Report.{records}
use Rattle.definitions.specs.State.{start}
use Rattle.definitions.specs.Walk.{join_uses}
use borrow.Author.Rules.{rules}
use borrow.Rule.Slice.PartMut.{mid_of, put_mid}
use Rattle.std.proofs.lemmas.Bool.{cases_lt}
use Rattle.std.proofs.lemmas.List.{places}
use Rattle.numbers.proofs.Laws.{byte_set, byte_set_apart}
use Rattle.memory.specs.Layout.{uses_at, pairs_at, sections_at, size}
use Rattle.memory.specs.View.{Shape, count_at, viewed}
use Rattle.memory.specs.Changes.{anew, none_left, zeroed, begun, joined_with, with_uses, table}
use Rattle.memory.specs.Facts.{ValidShape}
use Rattle.memory.proofs.Records.{Outside, length_records, records_at, records_all}
use Rattle.memory.proofs.View.{used, state_is, known_kept, counts_kept, lists_kept_before, table_kept}

-- a run of bytes made anew, from place i on: those of the run, and those outside it
module _ (f : ℕ → ℕ → ℕ) (p : ℕ) where
  pub length_anew : (i : ℕ) (w : List ℕ) → length (anew f p i w) ≡ length w
  unfolding anew
  length_anew i w = length-set w (p + i) (f i (byte w (p + i)))

  pub length_anew_all : (n i : ℕ) (w : List ℕ) → length (through (anew f p) (range i n) w) ≡ length w
  unfolding through range
  length_anew_all zero i w = refl
  length_anew_all (suc n) i w = length_anew_all n (suc i) (anew f p i w) ∙ length_anew i w

  pub anew_outside : (n i : ℕ) (w : List ℕ) → Outside w (through (anew f p) (range i n) w) (p + i) n
  unfolding through range anew
  anew_outside zero i w j a = refl
  anew_outside (suc n) i w j a =
      anew_outside n (suc i) (anew f p i w) j (λ x y. a (omega arith) (omega arith))
      ∙ byte_set_apart w (p + i) (f i (byte w (p + i))) j (λ x y. a (omega arith) (omega arith))

  pub anew_inside : (n i : ℕ) (w : List ℕ) (j : ℕ) → p + i + n ≤ length w → i ≤ j → j < i + n
      → byte (through (anew f p) (range i n) w) (p + j) ≡ f j (byte w (p + j))
  unfolding through range anew
  anew_inside zero i w j l a b = absurd (omega arith)
  anew_inside (suc n) i w j l a b = go (eqb j i) refl
      (λ c. anew_inside n (suc i) (anew f p i w) j (omega (arith, length_anew i w)) c (omega arith))
    where
      go : (t : Bool) → eqb j i ≡ t → (suc i ≤ j → byte (through (anew f p) (range (suc i) n) (anew f p i w)) (p + j) ≡ f j (byte (anew f p i w) (p + j)))
          → byte (through (anew f p) (range (suc i) n) (anew f p i w)) (p + j) ≡ f j (byte w (p + j))
      go true e ih =
          let q : j ≡ i = eqb-true j i e in
          anew_outside n (suc i) (anew f p i w) (p + j) (λ x y. omega arith)
          ∙ (rw q (byte_set w (p + i) (f i (byte w (p + i))) (omega arith)))
      go false e ih =
          let q : j ≡ i → ⊥ = eqb-false j i e in
          ih (omega arith) ∙ ap (f j) (byte_set_apart w (p + i) (f i (byte w (p + i))) (p + j) (λ x y. q (omega arith)))

  -- bytes that are what the run makes of w are those of the run
  pub anew_is : (n : ℕ) (w w' : List ℕ) → p + n ≤ length w → length w' ≡ length w → ((j : ℕ) → j < p → byte w' j ≡ byte w j)
      → ((j : ℕ) → j < n → byte w' (p + j) ≡ f j (byte w (p + j))) → ((j : ℕ) → p + n ≤ j → j < length w → byte w' j ≡ byte w j)
      → w' ≡ through (anew f p) (range 0 n) w
  unfolding byte
  anew_is n w w' fits l before inside behind =
      ext_get_or 0 w' (through (anew f p) (range 0 n) w) (l ∙ sym (length_anew_all n 0 w)) (λ i h. each i h (cases_lt i p) (cases_lt i (p + n)))
    where
      each : (i : ℕ) → i < length w' → (i < p) ⊎ (p ≤ i) → (i < p + n) ⊎ (p + n ≤ i) → get_or w' i 0 ≡ get_or (through (anew f p) (range 0 n) w) i 0
      each i h (inl b) _ = before i b ∙ sym (anew_outside n 0 w i (λ x y. omega arith))
      each i h (inr a) (inr b) = behind i b (omega arith) ∙ sym (anew_outside n 0 w i (λ x y. omega arith))
      each i h (inr a) (inl b) =
          let e : p + (i - p) ≡ i = omega arith in
          rw e at (inside (i - p) (omega arith) ∙ sym (anew_inside n 0 w (i - p) (omega arith) (omega arith) (omega arith)))

-- zeros
pub length_zeroed : (p n : ℕ) (w : List ℕ) → length (zeroed p n w) ≡ length w
unfolding zeroed
length_zeroed p n w = length_anew_all none_left p n 0 w

pub zeroed_outside : (p n : ℕ) (w : List ℕ) → Outside w (zeroed p n w) p n
unfolding zeroed
zeroed_outside p n w j a = anew_outside none_left p n 0 w j (λ x y. a (omega arith) (omega arith))

pub zeroed_inside : (p n : ℕ) (w : List ℕ) → p + n ≤ length w → (j : ℕ) → p ≤ j → j < p + n → byte (zeroed p n w) j ≡ 0
unfolding zeroed none_left
zeroed_inside p n w l j a b =
    let e : p + (j - p) ≡ j = omega arith in
    ap (byte (through (anew none_left p) (range 0 n) w)) (sym e) ∙ anew_inside none_left p n 0 w (j - p) (omega arith) (omega arith) (omega arith)

-- a part of w that is filled with zeros
pub zeros_put : (p n m : ℕ) (w ys : List ℕ) → p + n ≤ length w → m ≡ n → ys ≡ replicate (length (mid_of p m w)) 0 → put_mid p m w ys ≡ zeroed p n w
unfolding zeroed none_left byte
zeros_put p n m w ys fits e y =
    let long : length (mid_of p m w) ≡ n = search (rules, places) in
    let z : ys ≡ replicate n 0 = y ∙ ap (λ (k : ℕ). replicate k 0) long in
    rw (e, z) (anew_is none_left p n w (put_mid p n w (replicate n 0)) fits (search (rules, places)) (λ j h. grind (arith, places))
    (λ j h. grind (arith, places)) (λ j h k. grind (arith, places)))

-- the shape of a function where its analysis begins
abbrev pub empty : ℕ → ℕ → Shape
empty expressions globals = record { known = 0; expressions = expressions; globals = globals; pairs = 0; mixed = 0 }

zero_count : (w : List ℕ) (p : ℕ) → ((j : ℕ) → p ≤ j → j < p + 9 → byte w j ≡ 0) → count_at w p ≡ 0
unfolding count_at be32 be16
zero_count w p h =
    let a : byte w (p + 3) ≡ 0 = h (p + 3) (omega arith) (omega arith) in
    let b : byte w (p + 3 + 1) ≡ 0 = h (p + 3 + 1) (omega arith) (omega arith) in
    let c : byte w (p + 3 + 2) ≡ 0 = h (p + 3 + 2) (omega arith) (omega arith) in
    let d : byte w (p + 3 + 2 + 1) ≡ 0 = h (p + 3 + 2 + 1) (omega arith) (omega arith) in
    omega arith

module _ (expressions globals : ℕ) (w : List ℕ) (l : length w ≡ size) (x : 9 * expressions ≤ uses_at) (g : uses_at + globals ≤ pairs_at) where
  begun_counts : (i : ℕ) → i < expressions → count_at (begun expressions globals w) (0 + 9 * i) ≡ 0
  unfolding begun uses_at size
  begun_counts i k = zero_count (begun expressions globals w) (0 + 9 * i) (λ j a b.
      zeroed_outside uses_at globals (zeroed 0 (9 * expressions) w) j (λ p q. omega arith)
      ∙ zeroed_inside 0 (9 * expressions) w (omega arith) j (omega arith) (omega arith))

  begun_uses : (i : ℕ) → i < globals → byte (begun expressions globals w) (uses_at + 1 * i) ≡ 0
  unfolding begun uses_at pairs_at size
  begun_uses i k =
      zeroed_inside uses_at globals (zeroed 0 (9 * expressions) w) (omega (arith, length_zeroed 0 (9 * expressions) w)) (uses_at + 1 * i) (omega arith) (omega arith)

  pub viewed_begun : viewed (empty expressions globals) (begun expressions globals w)
      ≡ record { known = []; counts = replicate expressions 0; uses = replicate globals 0; lists = no_pairs }
  unfolding viewed records no_pairs
  viewed_begun =
      state_is refl (records_all count_at 9 (begun expressions globals w) 0 expressions 0 begun_counts)
      (records_all byte 1 (begun expressions globals w) uses_at globals 0 begun_uses) refl

  pub table_begun : table (begun expressions globals w) ≡ table w
  unfolding begun uses_at pairs_at sections_at
  table_begun =
      table_kept (zeroed 0 (9 * expressions) w) (begun expressions globals w) uses_at globals (zeroed_outside uses_at globals (zeroed 0 (9 * expressions) w))
      (length_zeroed uses_at globals (zeroed 0 (9 * expressions) w)) (omega arith)
      ∙ table_kept w (zeroed 0 (9 * expressions) w) 0 (9 * expressions) (zeroed_outside 0 (9 * expressions) w) (length_zeroed 0 (9 * expressions) w) (omega arith)

-- a function's start, as the definitions have it
pub viewed_start : (m : List ℕ) (f : ℕ) (w : List ℕ) → length w ≡ size → 9 * expressions m f ≤ uses_at → uses_at + globals m ≤ pairs_at
    → viewed (empty (expressions m f) (globals m)) (begun (expressions m f) (globals m) w) ≡ start m f
unfolding start
viewed_start m f w l x g = viewed_begun (expressions m f) (globals m) w l x g

-- uses joined, one by one
join_uses_at : (xs ys : List ℕ) (i : ℕ) → length xs ≡ length ys → i < length xs → get_or (join_uses xs ys) i 0 ≡ join (get_or xs i 0) (get_or ys i 0)
unfolding join_uses
join_uses_at [] ys i l h = absurd (omega arith)
join_uses_at (x ∷ xs) [] i l h = absurd (omega arith)
join_uses_at (x ∷ xs) (y ∷ ys) zero l h = refl
join_uses_at (x ∷ xs) (y ∷ ys) (suc i) l h = join_uses_at xs ys i (omega arith) (omega arith)

length_join_uses : (xs ys : List ℕ) → length (join_uses xs ys) ≡ length xs
unfolding join_uses
length_join_uses [] ys = refl
length_join_uses (x ∷ xs) [] = refl
length_join_uses (x ∷ xs) (y ∷ ys) = ap suc (length_join_uses xs ys)

pub length_with_uses : (b : List ℕ) (at n : ℕ) (w : List ℕ) → length (with_uses b at n w) ≡ length w
unfolding with_uses
length_with_uses b at n w = length_anew_all (joined_with b at) uses_at n 0 w

with_uses_outside : (b : List ℕ) (at n : ℕ) (w : List ℕ) → Outside w (with_uses b at n w) uses_at n
unfolding with_uses
with_uses_outside b at n w j a = anew_outside (joined_with b at) uses_at n 0 w j (λ x y. a (omega arith) (omega arith))

module _ (h : Shape) (fit : ValidShape h) (w : List ℕ) (l : length w ≡ size) (b : List ℕ) (at : ℕ) where
  each_use : (i : ℕ) → i < h.globals → get_or (records byte 1 (with_uses b at h.globals w) uses_at h.globals) i 0
      ≡ join (get_or (records byte 1 w uses_at h.globals) i 0) (get_or (records byte 1 b at h.globals) i 0)
  unfolding with_uses joined_with pairs_at size
  each_use i k =
      let n = h.globals in
      let p : uses_at + 1 * i ≡ uses_at + i = omega arith in
      let q : at + 1 * i ≡ at + i = omega arith in
      let x : get_or (records byte 1 w uses_at n) i 0 ≡ byte w (uses_at + i) = records_at byte 1 w uses_at n i 0 k ∙ ap (byte w) p in
      let y : get_or (records byte 1 b at n) i 0 ≡ byte b (at + i) = records_at byte 1 b at n i 0 k ∙ ap (byte b) q in
      records_at byte 1 (with_uses b at n w) uses_at n i 0 k ∙ ap (byte (with_uses b at n w)) p
      ∙ anew_inside (joined_with b at) uses_at n 0 w i (omega (arith, fit.globals_in)) (omega arith) (omega arith)
      ∙ sym (ap (λ v. join v (get_or (records byte 1 b at n) i 0)) x ∙ ap (join (byte w (uses_at + i))) y)

  joined_uses : (viewed h (with_uses b at h.globals w)).uses ≡ join_uses (viewed h w).uses (records byte 1 b at h.globals)
  unfolding viewed
  joined_uses =
      let xs = records byte 1 w uses_at h.globals in
      let ys = records byte 1 b at h.globals in
      let n = length_records byte 1 (with_uses b at h.globals w) uses_at h.globals in
      let nx : length xs ≡ h.globals = length_records byte 1 w uses_at h.globals in
      let ny : length ys ≡ h.globals = length_records byte 1 b at h.globals in
      ext_get_or 0 (records byte 1 (with_uses b at h.globals w) uses_at h.globals) (join_uses xs ys)
      (n ∙ sym (length_join_uses xs ys ∙ nx))
      (λ i k. each_use i (omega (arith, n)) ∙ sym (join_uses_at xs ys i (nx ∙ sym ny) (omega (arith, n, nx))))

  pub viewed_joined : viewed h (with_uses b at h.globals w) ≡ used (join_uses (viewed h w).uses (records byte 1 b at h.globals)) (viewed h w)
  unfolding viewed uses_at pairs_at
  viewed_joined =
      let w' = with_uses b at h.globals w in
      let out = with_uses_outside b at h.globals w in
      state_is (known_kept h fit w w' uses_at h.globals out (λ p q. omega arith)) (counts_kept h fit w w' uses_at h.globals out (λ p q. omega arith))
      joined_uses (lists_kept_before h fit w w' uses_at h.globals out fit.globals_in)

  pub table_joined : table (with_uses b at h.globals w) ≡ table w
  unfolding pairs_at sections_at
  table_joined =
      table_kept w (with_uses b at h.globals w) uses_at h.globals (with_uses_outside b at h.globals w)
      (length_with_uses b at h.globals w) (omega (arith, fit.globals_in))
