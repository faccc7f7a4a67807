-- Laws of laid bytes. Assumes nothing.
use Prim.Native.Nat.{ℕ, suc, ◌+◌, ◌/◌, ◌%◌, ◌≤◌}
use mathlib.Core.Path.{◌≡◌, refl, ap, ◌∙◌, sym}
use mathlib.Core.List.{List, [], ◌∷◌, ◌++◌}
use native.Mathlib.Omega.{arith}
use native.Mathlib.Numerals.{add-one}
use lib.ListN.{length, set, take, drop}
use lib.Seq.{sets, sets-eq, length-sets, paste, length-take-le}
use Rattle.definitions.specs.Bytes.{put16, put32}
use Rattle.numbers.specs.Stores.{store16, store32}
use Rattle.report.specs.Laid.{laid}
use Rattle.report.proofs.Lengths.{length_put16}

pub length_laid : (l : List ℕ) (at : ℕ) (bytes : List ℕ) → length (laid l at bytes) ≡ length l
unfolding laid
length_laid l at bytes = length-sets l at bytes

-- what is laid stands between what was before it and what was behind it
pub laid_is : (l : List ℕ) (at : ℕ) (bytes : List ℕ) → at + length bytes ≤ length l → laid l at bytes ≡ take at l ++ bytes ++ drop (at + length bytes) l
unfolding laid
laid_is l at bytes h = sets-eq bytes l at h

-- one part after another
sets_append : (xs ys l : List ℕ) (at : ℕ) → sets l at (xs ++ ys) ≡ sets (sets l at xs) (at + length xs) ys
sets_append [] ys l at = ap (λ (k : ℕ). sets l k ys) (omega arith)
sets_append (x ∷ xs) ys l at = sets_append xs ys (set l at x) (suc at) ∙ ap (λ (k : ℕ). sets (sets (set l at x) (suc at) xs) k ys) (omega arith)

pub laid_append : (l : List ℕ) (at : ℕ) (xs ys : List ℕ) → laid l at (xs ++ ys) ≡ laid (laid l at xs) (at + length xs) ys
unfolding laid
laid_append l at xs ys = sets_append xs ys l at

-- the same, with the place and the bytes as the code has them
pub laid_then : (l : List ℕ) (at at' : ℕ) (xs ys : List ℕ) → at + length xs ≡ at' → laid (laid l at xs) at' ys ≡ laid l at (xs ++ ys)
laid_then l at at' xs ys e = sym (laid_append l at xs ys ∙ ap (λ (k : ℕ). laid (laid l at xs) k ys) e)

pub laid_none : (l : List ℕ) (at : ℕ) → laid l at [] ≡ l
unfolding laid
laid_none l at = refl

-- stores are bytes laid
pub set_laid : (l : List ℕ) (at v : ℕ) → set l at v ≡ laid l at (v ∷ [])
unfolding laid
set_laid l at v = refl

pub store16_laid : (l : List ℕ) (at v : ℕ) → store16 l at v ≡ laid l at (put16 v)
unfolding laid store16 put16
store16_laid l at v = ap (λ (k : ℕ). set (set l at (v / 256)) k (v % 256)) (add-one at)

-- a number of four bytes is one of two and one of two
pub put32_halves : (v : ℕ) → put16 (v / 65536) ++ put16 (v % 65536) ≡ put32 v
unfolding put16 put32
put32_halves v =
    let a : v / 65536 / 256 ≡ v / 16777216 = omega arith in
    let b : v % 65536 / 256 ≡ v / 256 % 256 = omega arith in
    let c : v % 65536 % 256 ≡ v % 256 = omega arith in
    rw (a, b, c)

pub store32_laid : (l : List ℕ) (at v : ℕ) → store32 l at v ≡ laid l at (put32 v)
unfolding store32
store32_laid l at v =
    ap (λ (l' : List ℕ). store16 l' (at + 2) (v % 65536)) (store16_laid l at (v / 65536))
    ∙ store16_laid (laid l at (put16 (v / 65536))) (at + 2) (v % 65536)
    ∙ laid_then l at (at + 2) (put16 (v / 65536)) (put16 (v % 65536)) (ap (λ (n : ℕ). at + n) (length_put16 (v / 65536)))
    ∙ ap (λ (bytes : List ℕ). laid l at bytes) (put32_halves v)

-- a copy is bytes laid
pub paste_laid : (l : List ℕ) (at : ℕ) (s : List ℕ) (n : ℕ) → n ≤ length s → at + n ≤ length l → paste l at s n ≡ laid l at (take n s)
paste_laid l at s n hs hl =
    let e : length (take n s) ≡ n = length-take-le n s hs in
    sym (laid_is l at (take n s) (rw e hl) ∙ ap (λ (k : ℕ). take at l ++ take n s ++ drop (at + k) l) e)
