-- A text behind a line, as far as there is room: what is cut off, spaces up to a column, a number's digits, and a first line.
use Rattle.std.proofs.Common.{◌≡◌, ℕ, zero, suc, ◌+◌, ◌-◌, ◌/◌, ◌%◌, ◌^◌, ◌≤◌, ◌<◌, min, max, List, [], ◌∷◌, ◌++◌, length, take, drop, get_or, replicate, refl, sym, ap, ◌∙◌, append_assoc, append-nil, add-one, ◌≢◌, eq-eqb, ne_eqb, drop-cons, arith, tests}
use Rattle.std.proofs.Math.Seq.{take-append-add, paste}
use Rattle.std.proofs.Math.ListN.{length-replicate}
use Rattle.std.proofs.Math.Nat.{pow-suc}
use Rattle.std.proofs.lemmas.List.Edits.{take-paste, drop-paste, length-paste}
use Rattle.std.proofs.lemmas.List.{length-take-le, drop-drop, drop-replicate, take_min, take_all, drop_all, take-replicate, length_push}
use Rattle.std.proofs.lemmas.Fmt.{decimal_by_steps}
use Rattle.std.specs.Fmt.{decimal}
use Rattle.io.specs.Digits.{last_digits, hex_digit_ascii, IsDigitCount}
use Rattle.text.specs.declared.Line.{Line}
use Rattle.text.specs.Lines.{said, behind, visible, first_line, after, spaces}

-- a text behind another, of which so many bytes are taken, and how much of it that is
pub cut_behind : (n : ℕ) (s t : List ℕ) → length s ≤ n → s ++ take (n - length s) t ≡ take n (s ++ t)
cut_behind n s t le =
    let e : length s + (n - length s) ≡ n = omega arith in
    sym (take-append-add s t (n - length s)) ∙ ap (λ k. take k (s ++ t)) e

-- a line says as many bytes as it has, which is no more than there is room for
pub said_long : (l : Line) → length (said l) ≡ l.used
said_long l = length-take-le l.used l.bytes (rw l.whole l.in_room)

pub said_short : (l : Line) → length (said l) ≤ 160
said_short l = rw (said_long l) l.in_room

-- what a line says, and that the rest of it is zero, where n bytes of a text are laid over it
module _ (l : Line) (t : List ℕ) (n : ℕ) (few : n ≤ length t) (room : l.used + n ≤ 160) where
  starts : l.used ≤ length l.bytes
  starts = rw l.whole l.in_room

  pub laid_says : take (l.used + n) (paste l.bytes l.used t n) ≡ said l ++ take n t
  laid_says = take-paste l.bytes l.used t n starts few

  pub laid_whole : length (paste l.bytes l.used t n) ≡ 160
  laid_whole = length-paste l.bytes l.used t n (rw l.whole room) few ∙ l.whole

  pub laid_unused : drop (l.used + n) (paste l.bytes l.used t n) ≡ replicate (160 - (l.used + n)) 0
  laid_unused =
      let left : 160 - l.used - n ≡ 160 - (l.used + n) = omega arith in
      drop-paste l.bytes l.used t n starts few ∙ (sym (drop-drop n l.used l.bytes) ∙ (ap (drop n) l.unused
      ∙ (drop-replicate n (160 - l.used) 0 ∙ ap (λ k. replicate k 0) left)))

-- as much of a text as there is room for: no more than there is of it, and no more than fits
pub taken_few : (l : Line) (t : List ℕ) (n : ℕ) → n ≡ min (length t) (160 - l.used) → n ≤ length t
taken_few l t n is = rw is (grind (arith, tests))

pub taken_fits : (l : Line) (t : List ℕ) (n : ℕ) → n ≡ min (length t) (160 - l.used) → l.used + n ≤ 160
taken_fits l t n is = rw is (grind (arith, tests, l.in_room))

pub taken_behind : (l : Line) (t : List ℕ) (n : ℕ) → n ≡ min (length t) (160 - l.used) → said l ++ take n t ≡ behind l t
taken_behind l t n e =
    let room : n ≡ min (160 - length (said l)) (length t) = rw (said_long l) (e ∙ grind (arith, tests)) in
    ap (λ k. said l ++ take k t) room ∙ (ap (λ x. said l ++ x) (take_min (160 - length (said l)) t) ∙ cut_behind 160 (said l) t (said_short l))

-- what is cut twice at the same place
pub cut_twice : (n : ℕ) (s t : List ℕ) → take n (take n s ++ t) ≡ take n (s ++ t)
cut_twice zero s t = refl
cut_twice (suc n) [] t = refl
cut_twice (suc n) (x ∷ s) t = ap (λ r. x ∷ r) (cut_twice n s t)

-- as many spaces as there is room for
cut_spaces : (k n : ℕ) → take {A = ℕ} k (replicate n 32) ≡ replicate (min k n) 32
cut_spaces k n =
    sym (take_min k (replicate n 32)) ∙ (ap (λ m. take (min k m) (replicate n 32)) (length-replicate n 32)
    ∙ take-replicate (min k n) n 32 (omega arith))

-- spaces, more or fewer, of which the line has room for as many
same_spaces : (l : Line) (m n : ℕ) → min (160 - length (said l)) m ≡ min (160 - length (said l)) n → behind l (replicate m 32) ≡ behind l (replicate n 32)
same_spaces l m n e =
    let shown : (n : ℕ) → said l ++ replicate (min (160 - length (said l)) n) 32 ≡ behind l (replicate n 32) =
    λ n. ap (λ x. said l ++ x) (sym (cut_spaces (160 - length (said l)) n)) ∙ cut_behind 160 (said l) (replicate n 32) (said_short l) in
    sym (shown m) ∙ (ap (λ k. said l ++ replicate k 32) e ∙ shown n)

pub column_spaces : (l : Line) (c : ℕ) → behind l (take (max 1 (min (c - length (said l)) 160)) (replicate 160 32)) ≡ behind l (spaces c (length (said l)))
column_spaces l c =
    let room = said_short l in
    let n = max 1 (min (c - length (said l)) 160) in
    ap (behind l) (take-replicate n 160 32 (omega arith)) ∙ same_spaces l n (suc (c - after (length (said l)))) (grind (arith, tests))

-- a number's digits are as few as it takes
pub record Digits (n : ℕ) (text : List ℕ) : Type 0 where
  pub fewest : IsDigitCount 10 1 n (length text)
  pub same : last_digits 10 (length text) n ≡ text

one_digit : (n : ℕ) → n < 10 → Digits n ((48 + n) ∷ [])
one_digit n lt = record { fewest = (omega arith, omega arith, λ h. absurd (omega arith)); same = grind (arith, tests) }

at_least : (k n : ℕ) → 10 ≤ n → IsDigitCount 10 1 (n / 10) k → 10 ^ k ≤ n
at_least zero n le d = absurd (omega (arith, d.0))
at_least (suc zero) n le d = le
at_least (suc (suc k)) n le d =
    let ten = pow-suc 10 (suc k) in
    let before : suc (suc k) - 1 ≡ suc k = omega arith in
    let most : 10 ^ suc k ≤ n / 10 = rw before at d.2 (omega arith) in
    omega (arith, ten, most)

fewest_more : (k n : ℕ) → 10 ≤ n → IsDigitCount 10 1 (n / 10) k → IsDigitCount 10 1 n (suc k)
fewest_more k n le d =
    let ten = pow-suc 10 k in
    let before : suc k - 1 ≡ k = omega arith in
    (omega arith, omega (arith, ten, d.1), λ _. rw before (at_least k n le d))

last_digit : (d : ℕ) → d < 10 → hex_digit_ascii d ≡ 48 + d
last_digit d lt = grind (arith, tests)

one_more : (n : ℕ) (text : List ℕ) → 10 ≤ n → Digits (n / 10) text → Digits n (text ++ ((48 + n % 10) ∷ []))
one_more n text le d =
    let longer : length (text ++ ((48 + n % 10) ∷ [])) ≡ suc (length text) = length_push text (48 + n % 10) ∙ add-one (length text) in
    record { fewest = rw longer (fewest_more (length text) n le d.fewest); same = rw (longer, d.same) (ap (λ b. text ++ (b ∷ [])) (last_digit (n % 10) (omega arith))) }

pub decimal_digits : (n : ℕ) → n < 2 ^ 64 → Digits n (decimal n)
decimal_digits = decimal_by_steps Digits one_digit one_more

-- a first line from the byte i on: where it ends, and where it goes on
pub first_line_stop : (text : List ℕ) (i : ℕ) → i < length text → get_or text i 0 ≡ 10 → first_line (drop i text) ≡ []
first_line_stop text i lt e = ap first_line (drop-cons text i 0 lt) ∙ rw (eq-eqb (get_or text i 0) 10 e)

pub first_line_end : (text : List ℕ) (i : ℕ) → length text ≤ i → first_line (drop i text) ≡ []
first_line_end text i le = ap first_line (drop_all i text le)

first_line_next : (text : List ℕ) (i : ℕ) → i < length text → get_or text i 0 ≢ 10 → first_line (drop i text) ≡ visible (get_or text i 0) ∷ first_line (drop (suc i) text)
first_line_next text i lt ne = ap first_line (drop-cons text i 0 lt) ∙ rw (ne_eqb (get_or text i 0) 10 ne)

-- a text behind a line and another behind that, or none
behind_twice : (l next : Line) (s t : List ℕ) → said next ≡ behind l s → behind next t ≡ behind l (s ++ t)
behind_twice l next s t e = ap (λ x. take 160 (x ++ t)) e ∙ (cut_twice 160 (said l ++ s) t ∙ ap (take 160) (append_assoc (said l) s t))

pub first_line_on : (text : List ℕ) (l next : Line) (i : ℕ) → i < length text → get_or text i 0 ≢ 10 → said next ≡ behind l (visible (get_or text i 0) ∷ [])
    → behind next (first_line (drop (i + 1) text)) ≡ behind l (first_line (drop i text))
first_line_on text l next i lt ne e =
    ap (λ n. behind next (first_line (drop n text))) (add-one i)
    ∙ (behind_twice l next (visible (get_or text i 0) ∷ []) (first_line (drop (suc i) text)) e ∙ ap (behind l) (sym (first_line_next text i lt ne)))

pub first_line_says : (l : Line) (rest all : List ℕ) → rest ≡ [] → behind l rest ≡ all → said l ≡ all
first_line_says l rest all none e = sym (append-nil (said l)) ∙ (sym (take_all 160 (said l ++ []) (rw append-nil (said_short l))) ∙ (ap (behind l) (sym none) ∙ e))
