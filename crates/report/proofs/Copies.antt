-- What stands in working memory is what is written (01, 7.4): the bytes of a number that was read are the bytes that
-- it was read from, and so a stretch of records is the records' bytes.
use Prim.Native.Nat.{ℕ, zero, suc, ◌+◌, ◌*◌, ◌/◌, ◌%◌, ◌≤◌}
use mathlib.Core.Path.{◌≡◌, refl, ap, ◌∙◌, sym, subst}
use mathlib.Core.Bool.{Bool, true, false, cond}
use mathlib.Core.List.{List, [], ◌∷◌, ◌++◌}
use native.Mathlib.Omega.{arith}
use lib.Dec.{eqb}
use lib.ListN.{length, get_or, take, drop, length-append}
use Rattle.definitions.specs.Bytes.{byte, be16, be32, put16, put32}
use Rattle.definitions.specs.Ends.{glob, arg}
use Rattle.definitions.specs.Report.{concat_map, tag, end_number, end_from, entry_bytes, pair_bytes, mixed_bytes, records, r_entry, r_mixed}
use Rattle.numbers.proofs.Laws.{ValidBytes}
use Rattle.vocabulary.proofs.Origins.{number_from, global_number_from}
use Rattle.memory.proofs.Records.{length_records}
use Rattle.definitions.proofs.Reading.{Stands}
use Rattle.report.proofs.Lengths.{length_all, length_entry, length_put16, length_put32}
use Rattle.report.proofs.Laid.{put32_halves}
use Rattle.report.proofs.Stands.{stands_both, stands_taken}

-- what is written of a tag and a number that were read: that number
pub end_written : (t x : ℕ) → end_number (end_from t x) ≡ x
unfolding end_from end_number
end_written t x = by_test (eqb t 0)
  where
    by_test : (b : Bool) → end_number (cond b (glob x) (arg x)) ≡ x
    by_test true = refl
    by_test false = refl

-- a tag says nothing of the number beside it
pub tag_written : (t x y : ℕ) → tag (end_from t x) ≡ tag (end_from t y)
unfolding end_from tag
tag_written t x y = by_test (eqb t 0)
  where
    by_test : (b : Bool) → tag (cond b (glob x) (arg x)) ≡ tag (cond b (glob y) (arg y))
    by_test true = refl
    by_test false = refl

-- the bytes of a number that was read at p stand at p
pub stands_byte : (w : List ℕ) (p : ℕ) → Stands w p (byte w p ∷ [])
unfolding Stands byte
stands_byte w p zero lt = ap (λ (k : ℕ). get_or w k 0) (omega arith)
stands_byte w p (suc i) lt = absurd (omega arith)

halves16 : (w : List ℕ) (p : ℕ) → ValidBytes w → byte w p ∷ byte w (p + 1) ∷ [] ≡ put16 (be16 w p)
unfolding put16 be16
halves16 w p o =
    let hi : (256 * byte w p + byte w (p + 1)) / 256 ≡ byte w p = omega (arith, o.small (p + 1)) in
    let lo : (256 * byte w p + byte w (p + 1)) % 256 ≡ byte w (p + 1) = omega (arith, o.small (p + 1)) in
    rw (hi, lo)

pub stands_put16 : (w : List ℕ) (p : ℕ) → ValidBytes w → Stands w p (put16 (be16 w p))
stands_put16 w p o = subst (Stands w p) (halves16 w p o) (stands_both w p (byte w p ∷ []) (byte w (p + 1) ∷ []) (p + 1) refl (stands_byte w p) (stands_byte w (p + 1)))

halves32 : (w : List ℕ) (p : ℕ) → ValidBytes w → put16 (be16 w p) ++ put16 (be16 w (p + 2)) ≡ put32 (be32 w p)
unfolding be16 be32
halves32 w p o =
    let s = o.small (p + 2 + 1) in
    let t = o.small (p + 2) in
    let hi : be16 w p ≡ be32 w p / 65536 = omega arith in
    let lo : be16 w (p + 2) ≡ be32 w p % 65536 = omega arith in
    ap (λ (x : ℕ). put16 x ++ put16 (be16 w (p + 2))) hi ∙ ap (λ (x : ℕ). put16 (be32 w p / 65536) ++ put16 x) lo ∙ put32_halves (be32 w p)

pub stands_put32 : (w : List ℕ) (p : ℕ) → ValidBytes w → Stands w p (put32 (be32 w p))
stands_put32 w p o =
    subst (Stands w p) (halves32 w p o)
    (stands_both w p (put16 (be16 w p)) (put16 (be16 w (p + 2))) (p + 2) (omega (arith, length_put16 (be16 w p))) (stands_put16 w p o) (stands_put16 w (p + 2) o))

-- 7.4 the bytes of an expression that was read at p stand at p
pub stands_entry : (w : List ℕ) (p : ℕ) → ValidBytes w → Stands w p (entry_bytes (r_entry w p))
unfolding entry_bytes r_entry
stands_entry w p o =
    let u = put16 (be16 w p) in
    let n = put32 (be32 w (p + 3)) in
    rw (number_from (be16 w p), global_number_from (be16 w (p + 7)))
    (stands_both w p (u ++ (byte w (p + 2) ∷ []) ++ n) (put16 (be16 w (p + 7))) (p + 7) (simp length-append (omega (arith, length_put16 (be16 w p), length_put32 (be32 w (p + 3)))))
    (stands_both w p (u ++ (byte w (p + 2) ∷ [])) n (p + 3) (simp length-append (omega (arith, length_put16 (be16 w p))))
    (stands_both w p u (byte w (p + 2) ∷ []) (p + 2) (omega (arith, length_put16 (be16 w p))) (stands_put16 w p o) (stands_byte w (p + 2)))
    (stands_put32 w (p + 3) o))
    (stands_put16 w (p + 7) o))

-- records of one size that are read from p on stand there, one after another
pub stands_records : {A : Type 0} (write : A → List ℕ) (one : List ℕ → ℕ → A) (size : ℕ) (w : List ℕ) → ((x : A) → length (write x) ≡ size)
    → ((p : ℕ) → Stands w p (write (one w p))) → (p n : ℕ) → Stands w p (concat_map write (records one size w p n))
unfolding Stands concat_map records
stands_records write one size w l h p zero = λ i lt. absurd (omega arith)
stands_records write one size w l h p (suc n) =
    stands_both w p (write (one w p)) (concat_map write (records one size w (p + size) n)) (p + size) (ap (λ (k : ℕ). p + k) (sym (l (one w p)))) (h p)
    (stands_records write one size w l h (p + size) n)

-- so a stretch of n of them is their bytes
pub records_copied : {A : Type 0} (write : A → List ℕ) (one : List ℕ → ℕ → A) (size : ℕ) (w : List ℕ) → ((x : A) → length (write x) ≡ size)
    → ((p : ℕ) → Stands w p (write (one w p))) → (p n : ℕ) → p + size * n ≤ length w → take (size * n) (drop p w) ≡ concat_map write (records one size w p n)
records_copied write one size w l h p n fits =
    let long : length (concat_map write (records one size w p n)) ≡ size * n =
    length_all write size l (records one size w p n) ∙ ap (λ (k : ℕ). size * k) (length_records one size w p n) in
    ap (λ (k : ℕ). take k (drop p w)) (sym long)
    ∙ stands_taken w p (concat_map write (records one size w p n)) (stands_records write one size w l h p n) (rw long fits)

-- the expressions, and the uses
pub expressions_copied : (w : List ℕ) (n : ℕ) → ValidBytes w → 9 * n ≤ length w → take (9 * n) (drop 0 w) ≡ concat_map entry_bytes (records r_entry 9 w 0 n)
expressions_copied w n o fits = records_copied entry_bytes r_entry 9 w length_entry (λ p. stands_entry w p o) 0 n (omega arith)

singles : (xs : List ℕ) → concat_map (λ x. x ∷ []) xs ≡ xs
unfolding concat_map
singles [] = refl
singles (x ∷ xs) = ap (λ (r : List ℕ). x ∷ r) (singles xs)

pub uses_copied : (w : List ℕ) (p n : ℕ) → p + n ≤ length w → take n (drop p w) ≡ records byte 1 w p n
uses_copied w p n fits =
    let e : n ≡ 1 * n = omega arith in
    ap (λ (k : ℕ). take k (drop p w)) e
    ∙ records_copied (λ x. x ∷ []) byte 1 w (λ x. refl) (λ q. stands_byte w q) p n (omega arith)
    ∙ singles (records byte 1 w p n)

-- 7.4 pairs, read with their tags and written without, or with them
pub pair_written : (w : List ℕ) (p : ℕ) → put16 (be16 w (p + 2)) ++ put16 (be16 w (p + 4)) ≡ pair_bytes (r_mixed w p)
unfolding pair_bytes r_mixed
pair_written w p = rw (end_written (byte w p) (be16 w (p + 2)), end_written (byte w (p + 1)) (be16 w (p + 4)))

pub mixed_written : (w : List ℕ) (p : ℕ)
    → (tag (end_from (byte w p) 0) ∷ []) ++ (tag (end_from (byte w (p + 1)) 0) ∷ []) ++ pair_bytes (r_mixed w p) ≡ mixed_bytes (r_mixed w p)
unfolding mixed_bytes pair_bytes r_mixed
mixed_written w p = rw (tag_written (byte w p) 0 (be16 w (p + 2)), tag_written (byte w (p + 1)) 0 (be16 w (p + 4)))
