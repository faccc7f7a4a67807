-- Bytes that stand at a place (definitions, Reading): two parts, a stretch that is cut out, and what a writer leaves
-- standing.
use Prim.Native.Nat.{ℕ, zero, suc, ◌+◌, ◌-◌, ◌<◌, ◌≤◌}
use mathlib.Core.Path.{◌≡◌, refl, ap, ◌∙◌, sym, subst}
use mathlib.Core.List.{List, [], ◌∷◌, ◌++◌}
use native.Mathlib.Omega.{arith}
use native.Mathlib.Decide.{dec_lt}
use lib.ListN.{length, set, take, drop, length-append, length-drop, length-set, get_or-append}
use lib.Seq.{sets, ext_get_or, get_or-append-add, get_or-take, get_or-drop, get_or-set_same, get_or-set_other, length-take-le}
use Rattle.definitions.specs.Bytes.{byte}
use Rattle.definitions.proofs.Reading.{Stands}
use Rattle.numbers.proofs.Laws.{Apart}
use Rattle.report.specs.Laid.{laid}

-- two parts, the second where the first ends
pub stands_both : (b : List ℕ) (at : ℕ) (xs ys : List ℕ) (at' : ℕ) → at' ≡ at + length xs → Stands b at xs → Stands b at' ys → Stands b at (xs ++ ys)
unfolding Stands byte
stands_both b at xs ys at' e h k i lt = by_part (simp length-append at lt) (dec_lt i (length xs))
  where
    by_part : i < length xs + length ys → Dec (i < length xs) → byte b (at + i) ≡ byte (xs ++ ys) i
    by_part lt (yes l) = h i l ∙ sym (get_or-append xs ys 0 i l)
    by_part lt (no n) =
        let j : length xs + (i - length xs) ≡ i = omega arith in
        ap (byte b) (omega arith) ∙ k (i - length xs) (omega arith) ∙ sym (get_or-append-add xs ys (i - length xs) 0) ∙ ap (byte (xs ++ ys)) j

-- a stretch that stands at p is cut out there
pub stands_taken : (w : List ℕ) (p : ℕ) (bytes : List ℕ) → Stands w p bytes → p + length bytes ≤ length w → take (length bytes) (drop p w) ≡ bytes
unfolding Stands byte
stands_taken w p bytes h fits =
    let long : length (take (length bytes) (drop p w)) ≡ length bytes = length-take-le (length bytes) (drop p w) (simp length-drop (omega arith)) in
    ext_get_or 0 (take (length bytes) (drop p w)) bytes long (λ i lt.
    let lt' : i < length bytes = subst (λ (n : ℕ). i < n) long lt in
    get_or-take (length bytes) (drop p w) i 0 lt' ∙ get_or-drop p w i 0 ∙ h i lt')

-- what is laid stands, and what stands elsewhere stays
byte_sets_apart : (l : List ℕ) (at : ℕ) (bytes : List ℕ) (j : ℕ) → Apart at (length bytes) j 1 → byte (sets l at bytes) j ≡ byte l j
unfolding byte
byte_sets_apart l at [] j h = refl
byte_sets_apart l at (x ∷ xs) j h =
    byte_sets_apart (set l at x) (suc at) xs j (λ p q. h (omega arith) (omega arith))
    ∙ get_or-set_other l at j x 0 (λ e. h (omega arith) (omega arith))

pub byte_laid_apart : (l : List ℕ) (at : ℕ) (bytes : List ℕ) (j : ℕ) → Apart at (length bytes) j 1 → byte (laid l at bytes) j ≡ byte l j
unfolding laid
byte_laid_apart l at bytes j h = byte_sets_apart l at bytes j h

byte_sets : (l : List ℕ) (at : ℕ) (bytes : List ℕ) (i : ℕ) → at + length bytes ≤ length l → i < length bytes → byte (sets l at bytes) (at + i) ≡ byte bytes i
unfolding byte
byte_sets l at [] i h lt = absurd (omega arith)
byte_sets l at (x ∷ xs) zero h lt =
    ap (byte (sets (set l at x) (suc at) xs)) (omega arith)
    ∙ byte_sets_apart (set l at x) (suc at) xs at (λ p q. omega arith) ∙ get_or-set_same l at x 0 (omega arith)
byte_sets l at (x ∷ xs) (suc i) h lt =
    ap (byte (sets (set l at x) (suc at) xs)) (omega arith)
    ∙ byte_sets (set l at x) (suc at) xs i (simp length-set (omega arith)) (omega arith)

pub stands_laid : (l : List ℕ) (at : ℕ) (bytes : List ℕ) → at + length bytes ≤ length l → Stands (laid l at bytes) at bytes
unfolding laid Stands
stands_laid l at bytes h i lt = byte_sets l at bytes i h lt

pub stands_laid_apart : (l : List ℕ) (at : ℕ) (bytes : List ℕ) (p : ℕ) (xs : List ℕ) → Apart at (length bytes) p (length xs) → Stands l p xs → Stands (laid l at bytes) p xs
unfolding Stands
stands_laid_apart l at bytes p xs a h i lt = byte_laid_apart l at bytes (p + i) (λ u v. a (omega arith) (omega arith)) ∙ h i lt
