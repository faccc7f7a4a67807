-- Bytes that move up by one entry, and a pair that is written: which byte stands where afterwards.
use Prim.Native.Nat.{ℕ, zero, suc, ◌+◌, ◌-◌, ◌<◌, ◌≤◌}
use native.Mathlib.Omega.{arith}
use native.Mathlib.Numerals.{add-one}
use mathlib.Core.Path.{◌≡◌, refl, sym, ap, ◌∙◌}
use mathlib.Core.List.{List, [], ◌∷◌, ◌++◌, append_assoc}
use lib.ListN.{length, get_or, take, drop, set, length-drop, length-set, get_or-append}
use lib.Seq.{paste, paste-zero, length-paste, get_or-take, get_or-drop, get_or-append-add, length-take-le, take-suc, drop-cons, set_at}
use Rattle.definitions.specs.Bytes.{byte, be16}
use Rattle.definitions.specs.Ends.{End, glob, arg, Pair}
use Rattle.definitions.specs.Report.{tag, end_number, end_from, r_mixed}
use Rattle.numbers.specs.Stores.{store16}
use Rattle.numbers.proofs.Laws.{Apart, length_store16, byte_set, byte_set_apart, byte_store16_apart, be16_store16_apart, be16_store16}
use Rattle.rules_pairs.specs.Bytes.{moved, stored}

paste_right : (d : List ℕ) (at : ℕ) (s : List ℕ) (n : ℕ) → paste d at s n ≡ take at d ++ (take n s ++ drop (at + n) d)
paste_right d at s n = append_assoc (take at d) (take n s) (drop (at + n) d)

-- what stands in bytes over which others were pasted: before them, in them, behind them
getD_paste_before : (d : List ℕ) (at : ℕ) (s : List ℕ) (n j : ℕ) → at ≤ length d → j < at → get_or (paste d at s n) j 0 ≡ get_or d j 0
getD_paste_before d at s n j h lt =
    ap (λ (l : List ℕ). get_or l j 0) (paste_right d at s n)
    ∙ get_or-append (take at d) (take n s ++ drop (at + n) d) 0 j (rw length-take-le (omega arith)) ∙ get_or-take at d j 0 lt

getD_paste_rest : (d : List ℕ) (at : ℕ) (s : List ℕ) (n k : ℕ) → at ≤ length d
    → get_or (paste d at s n) (at + k) 0 ≡ get_or (take n s ++ drop (at + n) d) k 0
getD_paste_rest d at s n k h =
    let e : at + k ≡ length (take at d) + k = ap (λ (x : ℕ). x + k) (sym (length-take-le at d h)) in
    ap (λ (x : ℕ). get_or (paste d at s n) x 0) e
    ∙ ap (λ (l : List ℕ). get_or l (length (take at d) + k) 0) (paste_right d at s n)
    ∙ get_or-append-add (take at d) (take n s ++ drop (at + n) d) k 0

getD_paste_in : (d : List ℕ) (at : ℕ) (s : List ℕ) (n k : ℕ) → at ≤ length d → n ≤ length s → k < n → get_or (paste d at s n) (at + k) 0 ≡ get_or s k 0
getD_paste_in d at s n k h hs lt =
    getD_paste_rest d at s n k h
    ∙ get_or-append (take n s) (drop (at + n) d) 0 k (rw length-take-le (omega arith))
    ∙ get_or-take n s k 0 lt

getD_paste_after : (d : List ℕ) (at : ℕ) (s : List ℕ) (n k : ℕ) → at ≤ length d → n ≤ length s → get_or (paste d at s n) (at + (n + k)) 0 ≡ get_or d (at + n + k) 0
getD_paste_after d at s n k h hs =
    let e : n + k ≡ length (take n s) + k = ap (λ (x : ℕ). x + k) (sym (length-take-le n s hs)) in
    getD_paste_rest d at s n (n + k) h
    ∙ ap (λ (x : ℕ). get_or (take n s ++ drop (at + n) d) x 0) e
    ∙ get_or-append-add (take n s) (drop (at + n) d) k 0
    ∙ get_or-drop (at + n) d k 0

-- the bytes from a up to e have moved
module _ (w : List ℕ) (a e : ℕ) (up : a ≤ e) (fits : e + 6 ≤ length w) where
  pub length_moved : length (moved w a e) ≡ length w
  unfolding moved
  length_moved = length-paste w (a + 6) (drop a w) (e - a) (omega arith) (simp length-drop (omega arith))

  pub moved_below : (j : ℕ) → j < a + 6 → byte (moved w a e) j ≡ byte w j
  unfolding moved byte
  moved_below j lt = getD_paste_before w (a + 6) (drop a w) (e - a) j (omega arith) lt

  pub moved_up : (j : ℕ) → a ≤ j → j < e → byte (moved w a e) (j + 6) ≡ byte w j
  unfolding moved byte
  moved_up j le lt =
      let p : j + 6 ≡ a + 6 + (j - a) = omega arith in
      let q : a + (j - a) ≡ j = omega arith in
      ap (λ (x : ℕ). get_or (paste w (a + 6) (drop a w) (e - a)) x 0) p
      ∙ getD_paste_in w (a + 6) (drop a w) (e - a) (j - a) (omega arith) (simp length-drop (omega arith)) (omega arith)
      ∙ get_or-drop a w (j - a) 0
      ∙ ap (λ (x : ℕ). get_or w x 0) q

  pub moved_above : (j : ℕ) → e + 6 ≤ j → byte (moved w a e) j ≡ byte w j
  unfolding moved byte
  moved_above j le =
      let p : j ≡ a + 6 + (e - a + (j - (e + 6))) = omega arith in
      let q : a + 6 + (e - a) + (j - (e + 6)) ≡ j = omega arith in
      ap (λ (x : ℕ). get_or (paste w (a + 6) (drop a w) (e - a)) x 0) p
      ∙ getD_paste_after w (a + 6) (drop a w) (e - a) (j - (e + 6)) (omega arith) (simp length-drop (omega arith))
      ∙ ap (λ (x : ℕ). get_or w x 0) q

-- a loop from e down to a: nothing has moved; one byte more has
pub moved_none : (w : List ℕ) (e : ℕ) → w ≡ moved w e e
unfolding moved
moved_none w e = let z : zero ≡ e - e = omega arith in paste-zero w (e + 6) (drop e w) ∙ ap (λ (n : ℕ). paste w (e + 6) (drop e w) n) z

pub moved_more : (w : List ℕ) (i e : ℕ) → i < e → e + 6 ≤ length w → set (moved w (i + 1) e) (i + 6) (byte w i) ≡ moved w i e
unfolding moved byte
moved_more w i e lt fits =
    let n : e - (i + 1) ≡ e - suc i = omega arith in
    let k : e - i ≡ suc (e - suc i) = omega arith in
    let t : take (i + 1 + 6) w ≡ take (i + 6) w ++ (get_or w (i + 6) 0 ∷ []) =
    (let q : i + 1 + 6 ≡ suc (i + 6) = omega arith in ap (λ (x : ℕ). take x w) q ∙ take-suc w (i + 6) 0 (omega arith)) in
    let s : take (e - i) (drop i w) ≡ get_or w i 0 ∷ take (e - (i + 1)) (drop (i + 1) w) =
    ap (λ (x : ℕ). take x (drop i w)) k ∙ ap (take (suc (e - suc i))) (drop-cons w i 0 (omega arith))
    ∙ ap (λ (x : ℕ). get_or w i 0 ∷ take x (drop (suc i) w)) (sym n)
    ∙ ap (λ (x : ℕ). get_or w i 0 ∷ take (e - (i + 1)) (drop x w)) (sym (add-one i)) in
    let d : i + 1 + 6 + (e - (i + 1)) ≡ i + 6 + (e - i) = omega arith in
    let rest : List ℕ = take (e - (i + 1)) (drop (i + 1) w) ++ drop (i + 1 + 6 + (e - (i + 1))) w in
    ap (λ (x : List ℕ). set x (i + 6) (get_or w i 0)) (paste_right w (i + 1 + 6) (drop (i + 1) w) (e - (i + 1)))
    ∙ ap (λ (x : List ℕ). set (x ++ (take (e - (i + 1)) (drop (i + 1) w) ++ drop (i + 1 + 6 + (e - (i + 1))) w)) (i + 6) (get_or w i 0)) t
    ∙ ap (λ (x : List ℕ). set x (i + 6) (get_or w i 0)) (unsnoc (take (i + 6) w) (get_or w (i + 6) 0) rest)
    ∙ set_at (take (i + 6) w) (get_or w (i + 6) 0) rest (get_or w i 0) (i + 6) (length-take-le (i + 6) w (omega arith))
    ∙ ap (λ (x : ℕ). take (i + 6) w ++ (get_or w i 0 ∷ (take (e - (i + 1)) (drop (i + 1) w) ++ drop x w))) d
    ∙ ap (λ (x : List ℕ). take (i + 6) w ++ (x ++ drop (i + 6 + (e - i)) w)) (sym s)
    ∙ sym (paste_right w (i + 6) (drop i w) (e - i))
  where
    unsnoc : (xs : List ℕ) (a : ℕ) (ys : List ℕ) → (xs ++ (a ∷ [])) ++ ys ≡ xs ++ (a ∷ ys)
    unsnoc [] a ys = refl
    unsnoc (x ∷ xs) a ys = ap (λ (r : List ℕ). x ∷ r) (unsnoc xs a ys)

-- a loop that has come down to i
pub record MoveLoop (w₀ : List ℕ) (a e : ℕ) (w : List ℕ) (i : ℕ) : Type 0 where
  pub down : a ≤ i
  pub up : i ≤ e
  pub fits : e + 6 ≤ length w₀
  pub long : length w ≡ length w₀
  pub is : w ≡ moved w₀ i e

pub move_start : (w : List ℕ) (a e : ℕ) → a ≤ e → e + 6 ≤ length w → MoveLoop w a e w e
move_start w a e h k = record { down = h; up = omega arith; fits = k; long = refl; is = moved_none w e }

pub move_again : (w₀ : List ℕ) (a e : ℕ) (w : List ℕ) (i : ℕ) → MoveLoop w₀ a e w i → a < i → MoveLoop w₀ a e (set w (i - 1 + 6) (get_or w (i - 1) 0)) (i - 1)
unfolding byte
move_again w₀ a e w i v lt =
    let q : i - 1 + 1 ≡ i = omega arith in
    let is' : w ≡ moved w₀ (i - 1 + 1) e = v.is ∙ ap (λ (k : ℕ). moved w₀ k e) (sym q) in
    let r : get_or w (i - 1) 0 ≡ byte w₀ (i - 1) =
    ap (λ (l : List ℕ). get_or l (i - 1) 0) is' ∙ moved_below w₀ (i - 1 + 1) e (omega arith) v.fits (i - 1) (omega arith) in
    record {
      down = omega arith;
      up = omega arith;
      fits = v.fits;
      long = length-set w (i - 1 + 6) (get_or w (i - 1) 0) ∙ v.long;
      is = ap (λ (l : List ℕ). set l (i - 1 + 6) (get_or w (i - 1) 0)) is'
          ∙ ap (λ (x : ℕ). set (moved w₀ (i - 1 + 1) e) (i - 1 + 6) x) r
          ∙ moved_more w₀ (i - 1) e (omega arith) v.fits;
    }

pub move_done : (w₀ : List ℕ) (a e : ℕ) (w : List ℕ) (i : ℕ) → MoveLoop w₀ a e w i → i ≤ a → w ≡ moved w₀ a e
move_done w₀ a e w i v ge = let q : i ≡ a = (let h = v.down in omega arith) in v.is ∙ ap (λ (k : ℕ). moved w₀ k e) q

-- a pair is written at `at`
pub length_stored : (w : List ℕ) (at : ℕ) (p : Pair) → length (stored w at p) ≡ length w
unfolding stored
length_stored w at p = simp (length_store16, length-set)

pub stored_apart : (w : List ℕ) (at : ℕ) (p : Pair) (j : ℕ) → Apart at 6 j 1 → byte (stored w at p) j ≡ byte w j
unfolding stored
stored_apart w at p j h =
    let w₁ : List ℕ = set w at (tag p.image) in
    let w₂ : List ℕ = set w₁ (at + 1) (tag p.sampler) in
    let w₃ : List ℕ = store16 w₂ (at + 2) (end_number p.image) in
    byte_store16_apart w₃ (at + 4) (end_number p.sampler) j (λ a b. h (omega arith) (omega arith))
    ∙ byte_store16_apart w₂ (at + 2) (end_number p.image) j (λ a b. h (omega arith) (omega arith))
    ∙ byte_set_apart w₁ (at + 1) (tag p.sampler) j (λ a b. h (omega arith) (omega arith))
    ∙ byte_set_apart w at (tag p.image) j (λ a b. h (omega arith) (omega arith))

end_again : (x : End) → end_from (tag x) (end_number x) ≡ x
unfolding end_from tag end_number
end_again (glob g) = refl
end_again (arg a) = refl

-- what was written is read again
pub stored_read : (w : List ℕ) (at : ℕ) (p : Pair) → at + 6 ≤ length w → r_mixed (stored w at p) at ≡ p
unfolding stored r_mixed
stored_read w at p fits =
    let w₁ : List ℕ = set w at (tag p.image) in
    let w₂ : List ℕ = set w₁ (at + 1) (tag p.sampler) in
    let w₃ : List ℕ = store16 w₂ (at + 2) (end_number p.image) in
    let w₄ : List ℕ = store16 w₃ (at + 4) (end_number p.sampler) in
    let t₁ : byte w₄ at ≡ tag p.image =
    byte_store16_apart w₃ (at + 4) (end_number p.sampler) at (λ a b. omega arith)
    ∙ byte_store16_apart w₂ (at + 2) (end_number p.image) at (λ a b. omega arith)
    ∙ byte_set_apart w₁ (at + 1) (tag p.sampler) at (λ a b. omega arith)
    ∙ byte_set w at (tag p.image) (omega arith) in
    let t₂ : byte w₄ (at + 1) ≡ tag p.sampler =
    byte_store16_apart w₃ (at + 4) (end_number p.sampler) (at + 1) (λ a b. omega arith)
    ∙ byte_store16_apart w₂ (at + 2) (end_number p.image) (at + 1) (λ a b. omega arith)
    ∙ byte_set w₁ (at + 1) (tag p.sampler) (simp length-set (omega arith)) in
    let n₁ : be16 w₄ (at + 2) ≡ end_number p.image =
    be16_store16_apart w₃ (at + 4) (end_number p.sampler) (at + 2) (λ a b. omega arith)
    ∙ be16_store16 w₂ (at + 2) (end_number p.image) (simp length-set (omega arith)) in
    let n₂ : be16 w₄ (at + 4) ≡ end_number p.sampler =
    be16_store16 w₃ (at + 4) (end_number p.sampler) (simp (length_store16, length-set) (omega arith)) in
    let i : end_from (byte w₄ at) (be16 w₄ (at + 2)) ≡ p.image = ap (λ (t : ℕ). end_from t (be16 w₄ (at + 2))) t₁ ∙ ap (end_from (tag p.image)) n₁ ∙ end_again p.image in
    let s : end_from (byte w₄ (at + 1)) (be16 w₄ (at + 4)) ≡ p.sampler = ap (λ (t : ℕ). end_from t (be16 w₄ (at + 4))) t₂ ∙ ap (end_from (tag p.sampler)) n₂ ∙ end_again p.sampler in
    λ k. record { image = i k; sampler = s k }

-- a mixed pair is its six bytes
pub r_mixed_same : (w w' : List ℕ) (a a' : ℕ) → ((j : ℕ) → j < 6 → byte w (a + j) ≡ byte w' (a' + j)) → r_mixed w a ≡ r_mixed w' a'
unfolding r_mixed be16
r_mixed_same w w' a a' h =
    let e : a + 0 ≡ a = omega arith in
    let e' : a' + 0 ≡ a' = omega arith in
    let b₀ : byte w a ≡ byte w' a' = ap (byte w) (sym e) ∙ h 0 (omega arith) ∙ ap (byte w') e' in
    let b₁ = h 1 (omega arith) in
    let b₂ = h 2 (omega arith) in
    let q₃ : a + 2 + 1 ≡ a + 3 = omega arith in
    let q₃' : a' + 3 ≡ a' + 2 + 1 = omega arith in
    let b₃ : byte w (a + 2 + 1) ≡ byte w' (a' + 2 + 1) = ap (byte w) q₃ ∙ h 3 (omega arith) ∙ ap (byte w') q₃' in
    let b₄ = h 4 (omega arith) in
    let q₅ : a + 4 + 1 ≡ a + 5 = omega arith in
    let q₅' : a' + 5 ≡ a' + 4 + 1 = omega arith in
    let b₅ : byte w (a + 4 + 1) ≡ byte w' (a' + 4 + 1) = ap (byte w) q₅ ∙ h 5 (omega arith) ∙ ap (byte w') q₅' in
    rw (b₀, b₁, b₂, b₃, b₄, b₅)
