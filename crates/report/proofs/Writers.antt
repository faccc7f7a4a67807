-- Writers one after another: a store lays bytes, a copy does, and so do two writers where the second begins where the
-- first ended.
use Prim.Native.Nat.{ℕ, ◌+◌, ◌-◌, ◌*◌, ◌≤◌}
use mathlib.Core.Path.{◌≡◌, refl, ap, ◌∙◌, sym, subst}
use mathlib.Core.Bool.{Bool, true, false}
use mathlib.Core.List.{List, [], ◌∷◌, ◌++◌, append_assoc}
use mir.Val.{bool_byte}
use native.Mathlib.Omega.{arith}
use lib.ListN.{length, set, take, drop, length-append, length-drop}
use lib.Seq.{paste}
use Rattle.definitions.specs.Bytes.{byte, be16, put16, put32}
use Rattle.definitions.specs.Limits.{version_1}
use Rattle.definitions.specs.Module.{globals, functions}
use Rattle.definitions.specs.Origin.{origin_number, origin_from}
use Rattle.definitions.specs.Report.{report_header, flag_byte, tag, end_from, concat_map, records, pair_bytes, mixed_bytes, entry_bytes, r_mixed, r_entry}
use Rattle.numbers.specs.Stores.{store16, store32}
use Rattle.report.specs.Laid.{laid, BytesPut}
use Rattle.report.proofs.Laid.{length_laid, laid_then, set_laid, store16_laid, store32_laid, paste_laid}
use Rattle.report.proofs.Lengths.{length_put16, length_put32}
use Rattle.numbers.proofs.Laws.{ValidBytes}
use Rattle.vocabulary.proofs.Origins.{number_from}
use Rattle.report.proofs.Copies.{pair_written, mixed_written, uses_copied, expressions_copied}

pub put_laid : {l l' : List ℕ} {at : ℕ} {bytes : List ℕ} → l' ≡ laid l at bytes → BytesPut l l' at bytes
put_laid {l} {l'} {at} {bytes} e = record { is = e; long = ap length e ∙ length_laid l at bytes }

pub put_set : (l l' : List ℕ) (at v : ℕ) → l' ≡ set l at v → BytesPut l l' at (v ∷ [])
put_set l l' at v e = put_laid (e ∙ set_laid l at v)

pub put_set16 : (l l' : List ℕ) (at v : ℕ) → l' ≡ store16 l at v → BytesPut l l' at (put16 v)
put_set16 l l' at v e = put_laid (e ∙ store16_laid l at v)

pub put_set32 : (l l' : List ℕ) (at v : ℕ) → l' ≡ store32 l at v → BytesPut l l' at (put32 v)
put_set32 l l' at v e = put_laid (e ∙ store32_laid l at v)

pub put_copy : (l l' : List ℕ) (at : ℕ) (w : List ℕ) (a n : ℕ) → a + n ≤ length w → at + n ≤ length l → l' ≡ paste l at (drop a w) n → BytesPut l l' at (take n (drop a w))
put_copy l l' at w a n hw hl e = put_laid (e ∙ paste_laid l at (drop a w) n (simp length-drop (omega arith)) hl)

pub put_then : {l l' l'' : List ℕ} {at at' : ℕ} (xs ys : List ℕ) → at + length xs ≡ at' → BytesPut l l' at xs → BytesPut l' l'' at' ys → BytesPut l l'' at (xs ++ ys)
put_then {l} {l'} {l''} {at} {at'} xs ys e p q =
    put_laid (q.is ∙ ap (λ (r : List ℕ). laid r at' ys) p.is ∙ laid_then l at at' xs ys e)

-- the bytes by another name
pub put_same : {l l' : List ℕ} {at : ℕ} {xs ys : List ℕ} → xs ≡ ys → BytesPut l l' at xs → BytesPut l l' at ys
put_same {l} {l'} {at} e p = subst (BytesPut l l' at) e p

-- ---- the writers of src/, each by what it stores

-- 7.2 expressions, pairs, mixed pairs
pub counts_put : (l l₁ l₂ l₃ : List ℕ) (at e p m : ℕ) → l₁ ≡ store16 l (at + 4) e → l₂ ≡ store16 l₁ (at + 6) p → l₃ ≡ store16 l₂ (at + 8) m
    → BytesPut l l₃ (at + 4) (put16 e ++ put16 p ++ put16 m)
counts_put l l₁ l₂ l₃ at e p m h₁ h₂ h₃ =
    put_then (put16 e ++ put16 p) (put16 m) (simp length-append (omega (arith, length_put16 e, length_put16 p)))
    (put_then (put16 e) (put16 p) (omega (arith, length_put16 e)) (put_set16 l l₁ (at + 4) e h₁) (put_set16 l₁ l₂ (at + 6) p h₂))
    (put_set16 l₂ l₃ (at + 8) m h₃)

-- 7.2 a truth as the library has it is a flag
pub flag_is : (x : Bool) → bool_byte x ≡ flag_byte x
unfolding flag_byte
flag_is true = refl
flag_is false = refl

-- 7.2 origin, requirements, may-kill
pub summary_put : (l l₁ : List ℕ) (at o r k k' : ℕ) → k ≡ k' → l₁ ≡ store16 l at o
    → BytesPut l (set (set l₁ (at + 2) r) (at + 3) k) at (put16 (origin_number (origin_from o)) ++ (r ∷ k' ∷ []))
summary_put l l₁ at o r k k' q h =
    put_same (two (put16 o) (put16 (origin_number (origin_from o))) r k k' (ap put16 (sym (number_from o))) q)
    (put_then (put16 o ++ (r ∷ [])) (k ∷ []) (simp length-append (omega (arith, length_put16 o)))
    (put_then (put16 o) (r ∷ []) (omega (arith, length_put16 o)) (put_set16 l l₁ at o h) (put_set l₁ (set l₁ (at + 2) r) (at + 2) r refl))
    (put_set (set l₁ (at + 2) r) (set (set l₁ (at + 2) r) (at + 3) k) (at + 3) k refl))
  where
    two : (xs ys : List ℕ) (r k k' : ℕ) → xs ≡ ys → k ≡ k' → xs ++ (r ∷ []) ++ (k ∷ []) ≡ ys ++ (r ∷ k' ∷ [])
    two xs ys r k k' e q = append_assoc xs (r ∷ []) (k ∷ []) ∙ rw (e, q)

-- 7.4 a pair, and a mixed pair
pub pair_put : (w l l₁ l₂ : List ℕ) (p at i s : ℕ) → i ≡ be16 w (p + 2) → s ≡ be16 w (p + 4) → l₁ ≡ store16 l at i → l₂ ≡ store16 l₁ (at + 2) s
    → BytesPut l l₂ at (pair_bytes (r_mixed w p))
pair_put w l l₁ l₂ p at i s ei es h₁ h₂ =
    put_same (ap (λ (x : ℕ). put16 x ++ put16 s) ei ∙ ap (λ (x : ℕ). put16 (be16 w (p + 2)) ++ put16 x) es ∙ pair_written w p)
    (put_then (put16 i) (put16 s) (omega (arith, length_put16 i)) (put_set16 l l₁ at i h₁) (put_set16 l₁ l₂ (at + 2) s h₂))

pub mixed_put : (w l l₁ : List ℕ) (p at t u : ℕ) → t ≡ tag (end_from (byte w p) 0) → u ≡ tag (end_from (byte w (p + 1)) 0)
    → BytesPut (set (set l at t) (at + 1) u) l₁ (at + 2) (pair_bytes (r_mixed w p)) → BytesPut l l₁ at (mixed_bytes (r_mixed w p))
mixed_put w l l₁ p at t u et eu h =
    put_same (ap (λ (x : ℕ). (x ∷ []) ++ (u ∷ []) ++ pair_bytes (r_mixed w p)) et
    ∙ ap (λ (x : ℕ). (tag (end_from (byte w p) 0) ∷ []) ++ (x ∷ []) ++ pair_bytes (r_mixed w p)) eu ∙ mixed_written w p)
    (put_then ((t ∷ []) ++ (u ∷ [])) (pair_bytes (r_mixed w p)) refl
    (put_then (t ∷ []) (u ∷ []) refl (put_set l (set l at t) at t refl) (put_set (set l at t) (set (set l at t) (at + 1) u) (at + 1) u refl))
    h)

-- the uses, and the expressions
pub uses_put : (w l l' : List ℕ) (a at n : ℕ) → a + n ≤ length w → at + n ≤ length l → l' ≡ paste l at (drop a w) n → BytesPut l l' at (records byte 1 w a n)
uses_put w l l' a at n hw hl e = put_same (uses_copied w a n hw) (put_copy l l' at w a n hw hl e)

pub expressions_put : (w l l' : List ℕ) (at n : ℕ) → ValidBytes w → 9 * n ≤ length w → at + 9 * n ≤ length l → l' ≡ paste l at (drop 0 w) (9 * n)
    → BytesPut l l' at (concat_map entry_bytes (records r_entry 9 w 0 n))
expressions_put w l l' at n o hw hl e = put_same (expressions_copied w n o hw) (put_copy l l' at w 0 (9 * n) (omega arith) hl e)

-- 7.1 the header
pub header_put : (l l₁ l₃ l₄ : List ℕ) (n v g f : ℕ) → l₁ ≡ store32 l 0 n → l₃ ≡ store16 (set l₁ 4 v) 5 g → l₄ ≡ store16 l₃ 7 f
    → BytesPut l l₄ 0 (put32 n ++ (v ∷ []) ++ put16 g ++ put16 f)
header_put l l₁ l₃ l₄ n v g f h₁ h₃ h₄ =
    put_then (put32 n ++ (v ∷ []) ++ put16 g) (put16 f) (simp length-append (omega (arith, length_put32 n, length_put16 g)))
    (put_then (put32 n ++ (v ∷ [])) (put16 g) (simp length-append (omega (arith, length_put32 n)))
    (put_then (put32 n) (v ∷ []) (omega (arith, length_put32 n)) (put_set32 l l₁ 0 n h₁) (put_set l₁ (set l₁ 4 v) 4 v refl))
    (put_set16 (set l₁ 4 v) l₃ 5 g h₃))
    (put_set16 l₃ l₄ 7 f h₄)

-- 7.1 the header of version 1, by the length of the whole
pub header_is : (m : List ℕ) (n k g f : ℕ) → k ≡ 9 + n → g ≡ globals m → f ≡ functions m
    → put32 (k - 4) ++ (1 ∷ []) ++ put16 g ++ put16 f ≡ report_header version_1 m n
unfolding report_header version_1
header_is m n k g f e eg ef =
    let s : k - 4 ≡ 5 + n = omega arith in
    rw (s, eg, ef)
