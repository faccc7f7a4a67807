-- The table of roles (01, 4.1) against the code's way to ask it: the first operand of a kind has a use of its own,
-- all others read.
use Prim.Native.Nat.{ℕ, zero, suc, ◌+◌, ◌≤◌, ◌<◌}
use native.Mathlib.Omega.{arith}
use mathlib.Core.Bool.{Bool, true, false, cond, ◌||◌}
use mathlib.Core.Logic.{◌≢◌}
use mathlib.Core.Path.{◌≡◌, refl, ap, ◌∙◌, sym}
use mathlib.Core.List.{List, [], ◌∷◌}
use mathlib.Core.Option.{Option, none}
use borrow.Author.Tests.{eq-eqb, ne_eqb, eqb-true, eqb-false}
use lib.Dec.{eqb, leb}
use lib.ListN.{get_or}
use Rattle.definitions.specs.Codes.{READ, QUERY}
use Rattle.definitions.specs.Roles.{Use, R, Q, C, Role, must, mustn't, no_operand, role, level_1, level_2, operands_by_kind, use_of}
use Rattle.definitions.specs.State.{handed_by}
use Rattle.memory.specs.Changes.{mask_of}

-- what the first operand of a kind does, and the operand at place j where the first does d
abbrev first_use : ℕ → Use
first_use k = cond (eqb k 5 || eqb k 6) C (cond (eqb k 15 || eqb k 16) Q R)

abbrev use_at : Use → ℕ → Use
use_at d j = cond (eqb j 0) d R

-- roles that read
abbrev Reading : List Role → Type 0
Reading [] = Unit {0}
Reading (r ∷ rs) = (use_of r ≡ R) × Reading rs

reads : (rs : List Role) → Reading rs → (j : ℕ) → use_of (get_or rs j no_operand) ≡ R
unfolding use_of
reads [] h j = refl
reads (r ∷ rs) h zero = h.0
reads (r ∷ rs) h (suc j) = reads rs h.1 j

-- a line of the table: the first does d, the others read
abbrev Line : Use → List Role → Type 0
Line d [] = d ≡ R
Line d (r ∷ rs) = (use_of r ≡ d) × Reading rs

after_first : (d : Use) (j : ℕ) → use_at d (suc j) ≡ R
after_first d j = rw (ne_eqb (suc j) 0 (λ q. omega arith))

reading_at : (j : ℕ) → use_at R j ≡ R
reading_at j = go (eqb j 0)
  where
    go : (b : Bool) → cond b R R ≡ R
    go true = refl
    go false = refl

along : (d : Use) (rs : List Role) → Line d rs → (j : ℕ) → use_of (get_or rs j no_operand) ≡ use_at d j
unfolding use_of
along d [] h zero = sym h
along d [] h (suc j) = sym (after_first d j)
along d (r ∷ rs) h zero = h.0
along d (r ∷ rs) h (suc j) = reads rs h.1 j ∙ sym (after_first d j)

-- all lines from that of kind i on
abbrev Lines : ℕ → List (List Role) → Type 0
Lines i [] = (k : ℕ) → first_use (i + k) ≡ R
Lines i (l ∷ ls) = Line (first_use i) l × Lines (suc i) ls

line_of : (i : ℕ) (ls : List (List Role)) → Lines i ls → (k : ℕ) → Line (first_use (i + k)) (get_or ls k [])
line_of i [] h k = h k
line_of i (l ∷ ls) h zero = let e : i ≡ i + zero = omega arith in rw e at h.0
line_of i (l ∷ ls) h (suc k) = let e : suc i + k ≡ i + suc k = omega arith in rw e at (line_of (suc i) ls h.1 k)

level_1_reads : (u : ℕ) → use_of (level_1 u) ≡ R
unfolding level_1 use_of
level_1_reads u = go (leb 2 u)
  where
    go : (b : Bool) → use_of (cond b (must R) mustn't) ≡ R
    go true = refl
    go false = refl

level_2_reads : (u : ℕ) → use_of (level_2 u) ≡ R
unfolding level_2 use_of
level_2_reads u = go (eqb u 4)
  where
    go : (b : Bool) → use_of (cond b (must R) mustn't) ≡ R
    go true = refl
    go false = refl

beyond : (k : ℕ) → first_use (19 + k) ≡ R
beyond k = rw (ne_eqb (19 + k) 5 (λ q. omega arith), ne_eqb (19 + k) 6 (λ q. omega arith), ne_eqb (19 + k) 15 (λ q. omega arith), ne_eqb (19 + k) 16 (λ q. omega arith))

all_lines : (u : ℕ) → Lines 0 (operands_by_kind u)
unfolding operands_by_kind use_of
all_lines u = (
  refl,
  (
    refl,
    (
      refl,
      (
        refl,
        (
          refl,
          (
            (refl, (refl, tt)),
            (
              (refl, tt),
              (
                (refl, tt),
                (
                  (refl, tt),
                  (
                    (refl, (refl, tt)),
                    (
                      (refl, (refl, (refl, tt))),
                      (
                        refl,
                        (
                          (refl, (refl, (refl, (refl, tt)))),
                          (
                            (refl, (refl, (refl, (refl, (level_1_reads u, (level_2_reads u, (refl, (refl, tt)))))))),
                            (
                              (refl, (refl, (refl, (refl, (refl, tt))))),
                              (
                                (refl, (refl, tt)),
                                (
                                  (refl, tt),
                                  (
                                    (refl, (refl, tt)),
                                    ((refl, (refl, (refl, tt))), beyond),
                                  ),
                                ),
                              ),
                            ),
                          ),
                        ),
                      ),
                    ),
                  ),
                ),
              ),
            ),
          ),
        ),
      ),
    ),
  ),
)

pub use_is : (k u j : ℕ) → use_of (role k u j) ≡ use_at (first_use k) j
unfolding role use_of
use_is k u j = go (eqb k 11) refl
  where
    go : (b : Bool) → eqb k 11 ≡ b → use_of (cond b (must R) (get_or (get_or (operands_by_kind u) k []) j no_operand)) ≡ use_at (first_use k) j
    go true w = let e : k ≡ 11 = eqb-true k 11 w in sym (ap (λ y. use_at (first_use y) j) e ∙ reading_at j)
    go false w =
        let e : 0 + k ≡ k = omega arith in
        along (first_use k) (get_or (operands_by_kind u) k []) (rw e at (line_of 0 (operands_by_kind u) (all_lines u) k)) j

-- a kind's own use, by the ranges that the code's tests come to
carries_use : (k : ℕ) → 5 ≤ k → k < 7 → first_use k ≡ C
carries_use k a b = go (eqb k 5) refl
  where
    go : (t : Bool) → eqb k 5 ≡ t → cond (t || eqb k 6) C (cond (eqb k 15 || eqb k 16) Q R) ≡ C
    go true e = refl
    go false e = let n : k ≢ 5 = eqb-false k 5 e in rw (eq-eqb k 6 (omega arith))

queries_use : (k : ℕ) → 15 ≤ k → k < 17 → first_use k ≡ Q
queries_use k a b = rw (ne_eqb k 5 (λ q. omega arith), ne_eqb k 6 (λ q. omega arith)) (go (eqb k 15) refl)
  where
    go : (t : Bool) → eqb k 15 ≡ t → cond (t || eqb k 16) Q R ≡ Q
    go true e = refl
    go false e = let n : k ≢ 15 = eqb-false k 15 e in rw (eq-eqb k 16 (omega arith))

reads_use : (k : ℕ) → k ≢ 5 → k ≢ 6 → k ≢ 15 → k ≢ 16 → first_use k ≡ R
reads_use k a b c d = rw (ne_eqb k 5 a, ne_eqb k 6 b, ne_eqb k 15 c, ne_eqb k 16 d)

-- the use of an operand: the first one, and a later one
pub first_is : (k u j : ℕ) → j ≡ 0 → use_of (role k u j) ≡ first_use k
first_is k u j z = use_is k u j ∙ ap (λ t. cond t (first_use k) R) (eq-eqb j 0 z)

pub later_is : (k u j : ℕ) → j ≢ 0 → use_of (role k u j) ≡ R
later_is k u j n = use_is k u j ∙ ap (λ t. cond t (first_use k) R) (ne_eqb j 0 n)

pub base_is : (k u j : ℕ) → j ≡ 0 → 5 ≤ k → k < 7 → use_of (role k u j) ≡ C
base_is k u j z a b = first_is k u j z ∙ carries_use k a b

-- what the code's `role` answers: r is 0, QUERY or READ
pub marks_later : (k u j : ℕ) → j ≢ 0 → 1 ≡ mask_of (use_of (role k u j))
unfolding mask_of READ
marks_later k u j n = rw (later_is k u j n)

pub marks_base : (k u j r : ℕ) → j ≡ 0 → 5 ≤ k → k < 7 → r ≡ 0 → r ≡ mask_of (use_of (role k u j))
unfolding mask_of
marks_base k u j r z a b q = rw (base_is k u j z a b) q

pub marks_query : (k u j : ℕ) → j ≡ 0 → 15 ≤ k → k < 17 → 4 ≡ mask_of (use_of (role k u j))
unfolding mask_of QUERY
marks_query k u j z a b = rw (first_is k u j z ∙ queries_use k a b)

pub marks_read : (k u j : ℕ) → k ≢ 5 → k ≢ 6 → k ≢ 15 → k ≢ 16 → 1 ≡ mask_of (use_of (role k u j))
unfolding mask_of READ
marks_read k u j a b c d = rw (use_is k u j ∙ ap (λ d. use_at d j) (reads_use k a b c d) ∙ reading_at j)

-- an operand of a kind that carries no base hands nothing on
pub hands_other : (k u j : ℕ) → k ≢ 5 → k ≢ 6 → (g : Option ℕ) → handed_by (use_of (role k u j)) g ≡ none
unfolding handed_by
hands_other k u j a b g = ap (λ d. handed_by d g) (use_is k u j) ∙ go (eqb j 0)
  where
    first_hands : handed_by (first_use k) g ≡ none
    first_hands = rw (ne_eqb k 5 a, ne_eqb k 6 b) (by_query (eqb k 15 || eqb k 16))
      where
        by_query : (c : Bool) → handed_by (cond c Q R) g ≡ none
        by_query true = refl
        by_query false = refl

    go : (t : Bool) → handed_by (cond t (first_use k) R) g ≡ none
    go true = first_hands
    go false = refl
