-- Records that stand one after another in bytes (definitions, Report.records): their number, each of them, and what
-- they are once the bytes have changed. The laws hold for every reader `one` and every width.
use Prim.Native.Nat.{ℕ, zero, suc, ◌+◌, ◌*◌, ◌<◌}
use native.Mathlib.Nat.{mul-suc, mul-zero, add-zero, mul-le-mul_left}
use native.Mathlib.Omega.{arith}
use mathlib.Core.Logic.{◌≢◌}
use mathlib.Core.Path.{◌≡◌, refl, ap, ◌∙◌, sym}
use mathlib.Core.List.{List, [], ◌∷◌, ◌++◌}
use lib.ListN.{length, get_or, set, replicate}
use Rattle.definitions.specs.Bytes.{byte, be16, be32}
use Rattle.definitions.specs.Report.{records, r_pair, r_mixed, r_entry}
use Rattle.numbers.proofs.Laws.{Apart, be16_same, be32_same}
use Rattle.memory.specs.View.{known_at, count_at}

-- record i + 1 from p on is record i from the next on
next_at : (size p i : ℕ) → p + size + size * i ≡ p + size * suc i
next_at size p i = omega (arith, mul-suc size i)

first_at : (size p : ℕ) → p + size * zero ≡ p
first_at size p = omega (arith, mul-zero size)

module _ {A : Type 0} (one : List ℕ → ℕ → A) (size : ℕ) where
  pub length_records : (b : List ℕ) (p n : ℕ) → length (records one size b p n) ≡ n
  unfolding records
  length_records b p zero = refl
  length_records b p (suc n) = ap suc (length_records b (p + size) n)

  -- each of them
  pub records_at : (b : List ℕ) (p n i : ℕ) (d : A) → i < n → get_or (records one size b p n) i d ≡ one b (p + size * i)
  unfolding records
  records_at b p zero i d h = absurd (omega arith)
  records_at b p (suc n) zero d h = ap (one b) (sym (first_at size p))
  records_at b p (suc n) (suc i) d h = records_at b (p + size) n i d (omega arith) ∙ ap (one b) (next_at size p i)

  -- one record more, and several
  pub records_append : (b : List ℕ) (p n k : ℕ) → records one size b p (n + k) ≡ records one size b p n ++ records one size b (p + size * n) k
  unfolding records
  records_append b p zero k =
      let e : zero + k ≡ k = omega arith in
      ap (records one size b p) e ∙ ap (λ (q : ℕ). records one size b q k) (sym (first_at size p))
  records_append b p (suc n) k =
      let e : suc n + k ≡ suc (n + k) = omega arith in
      ap (records one size b p) e
      ∙ ap (λ (l : List A). one b p ∷ l) (records_append b (p + size) n k ∙ ap (λ (q : ℕ). records one size b (p + size) n ++ records one size b q k) (next_at size p n))

  pub records_more : (b : List ℕ) (p n : ℕ) → records one size b p (n + 1) ≡ records one size b p n ++ (one b (p + size * n) ∷ [])
  unfolding records
  records_more b p n = records_append b p n 1

  -- two places whose records are the same one by one
  pub records_same : (b b' : List ℕ) (p p' n : ℕ) → ((i : ℕ) → i < n → one b' (p' + size * i) ≡ one b (p + size * i))
      → records one size b' p' n ≡ records one size b p n
  unfolding records
  records_same b b' p p' zero h = refl
  records_same b b' p p' (suc n) h =
      let z : one b' p' ≡ one b p = ap (one b') (sym (first_at size p')) ∙ h zero (omega arith) ∙ ap (one b) (first_at size p) in
      let r : records one size b' (p' + size) n ≡ records one size b (p + size) n =
      records_same b b' (p + size) (p' + size) n (λ i k. ap (one b') (next_at size p' i) ∙ h (suc i) (omega arith) ∙ ap (one b) (sym (next_at size p i))) in
      cc

  -- all of them are the same but record e, which is v; an e that there is not changes nothing
  pub records_set : (b b' : List ℕ) (p n e : ℕ) (v : A) → (e < n → one b' (p + size * e) ≡ v)
      → ((i : ℕ) → i < n → i ≢ e → one b' (p + size * i) ≡ one b (p + size * i))
      → records one size b' p n ≡ set (records one size b p n) e v
  unfolding records
  records_set b b' p zero e v here others = refl
  records_set b b' p (suc n) zero v here others =
      let z : one b' p ≡ v = ap (one b') (sym (first_at size p)) ∙ here (omega arith) in
      let r : records one size b' (p + size) n ≡ records one size b (p + size) n =
      records_same b b' (p + size) (p + size) n (λ i k. ap (one b') (next_at size p i) ∙ others (suc i) (omega arith) (λ q. omega arith) ∙ ap (one b) (sym (next_at size p i))) in
      cc
  records_set b b' p (suc n) (suc e) v here others =
      let z : one b' p ≡ one b p = ap (one b') (sym (first_at size p)) ∙ others zero (omega arith) (λ q. omega arith) ∙ ap (one b) (first_at size p) in
      let r : records one size b' (p + size) n ≡ set (records one size b (p + size) n) e v =
      records_set b b' (p + size) n e v (λ k. ap (one b') (next_at size p e) ∙ here (omega arith))
      (λ i k q. ap (one b') (next_at size p i) ∙ others (suc i) (omega arith) (λ z. q (omega arith)) ∙ ap (one b) (sym (next_at size p i))) in
      cc

  -- all of them are v
  pub records_all : (b : List ℕ) (p n : ℕ) (v : A) → ((i : ℕ) → i < n → one b (p + size * i) ≡ v) → records one size b p n ≡ replicate n v
  unfolding records
  records_all b p zero v h = refl
  records_all b p (suc n) v h =
      let z : one b p ≡ v = ap (one b) (sym (first_at size p)) ∙ h zero (omega arith) in
      let r : records one size b (p + size) n ≡ replicate n v =
      records_all b (p + size) n v (λ i k. ap (one b) (next_at size p i) ∙ h (suc i) (omega arith)) in
      cc

-- w' differs from w in no byte but the n from a on
abbrev pub Outside : List ℕ → List ℕ → ℕ → ℕ → Type 0
Outside w w' a n = (j : ℕ) → Apart a n j 1 → byte w' j ≡ byte w j

-- `one` looks at no bytes but the `size` from its place on
abbrev pub Local : {A : Type 0} → (List ℕ → ℕ → A) → ℕ → Type 0
Local one size = (b b' : List ℕ) (p : ℕ) → ((j : ℕ) → j < size → byte b' (p + j) ≡ byte b (p + j)) → one b' p ≡ one b p

inside : (size n i j : ℕ) → i < n → j < size → size * i + j < size * n
inside size n i j h k = omega (arith, mul-le-mul_left size h, mul-suc size i)

-- records stay what they are when bytes change elsewhere
pub records_apart : {A : Type 0} (one : List ℕ → ℕ → A) (size : ℕ) → Local one size → (w w' : List ℕ) (a k : ℕ) → Outside w w' a k
    → (p n : ℕ) → Apart a k p (size * n) → records one size w' p n ≡ records one size w p n
records_apart one size local w w' a k out p n apart =
    records_same one size w w' p p n
    (λ i h. local w w' (p + size * i) (λ j g. out (p + size * i + j)
    (λ x y. apart (omega (arith, inside size n i j h g)) (omega arith))))

-- the readers of the report and of the working memory
pub local_byte : Local byte 1
local_byte b b' p h = ap (byte b') (sym (add-zero p)) ∙ h 0 (omega arith) ∙ ap (byte b) (add-zero p)

pub local_be16 : Local be16 2
local_be16 b b' p h = be16_same b' b p (ap (byte b') (sym (add-zero p)) ∙ h 0 (omega arith) ∙ ap (byte b) (add-zero p)) (h 1 (omega arith))

-- a number at a distance d from a record's place
at_distance : (b b' : List ℕ) (p size d : ℕ) → ((j : ℕ) → j < size → byte b' (p + j) ≡ byte b (p + j)) → d < size → byte b' (p + d) ≡ byte b (p + d)
at_distance b b' p size d h k = h d k

two_at : (b b' : List ℕ) (p size d : ℕ) → ((j : ℕ) → j < size → byte b' (p + j) ≡ byte b (p + j)) → d + 1 < size → be16 b' (p + d) ≡ be16 b (p + d)
two_at b b' p size d h k =
    let e : p + (d + 1) ≡ p + d + 1 = omega arith in
    be16_same b' b (p + d) (h d (omega arith)) (ap (byte b') (sym e) ∙ h (d + 1) k ∙ ap (byte b) e)

four_at : (b b' : List ℕ) (p size d : ℕ) → ((j : ℕ) → j < size → byte b' (p + j) ≡ byte b (p + j)) → d + 3 < size → be32 b' (p + d) ≡ be32 b (p + d)
four_at b b' p size d h k =
    let e : p + (d + 2) ≡ p + d + 2 = omega arith in
    be32_same b' b (p + d) (two_at b b' p size d h (omega arith)) (ap (be16 b') (sym e) ∙ two_at b b' p size (d + 2) h (omega arith) ∙ ap (be16 b) e)

two_first : (b b' : List ℕ) (p size : ℕ) → ((j : ℕ) → j < size → byte b' (p + j) ≡ byte b (p + j)) → 1 < size → be16 b' p ≡ be16 b p
two_first b b' p size h k = ap (be16 b') (sym (add-zero p)) ∙ two_at b b' p size 0 h k ∙ ap (be16 b) (add-zero p)

pub local_be32 : Local be32 4
local_be32 b b' p h = ap (be32 b') (sym (add-zero p)) ∙ four_at b b' p 4 0 h (omega arith) ∙ ap (be32 b) (add-zero p)

pub local_known : Local known_at 9
unfolding known_at
local_known b b' p h =
    let o : be16 b' p ≡ be16 b p = two_first b b' p 9 h (omega arith) in
    let r : byte b' (p + 2) ≡ byte b (p + 2) = h 2 (omega arith) in
    let g : be16 b' (p + 7) ≡ be16 b (p + 7) = two_at b b' p 9 7 h (omega arith) in
    cc

pub local_count : Local count_at 9
unfolding count_at
local_count b b' p h = four_at b b' p 9 3 h (omega arith)

pub local_pair : Local r_pair 4
unfolding r_pair
local_pair b b' p h =
    let x : be16 b' p ≡ be16 b p = two_first b b' p 4 h (omega arith) in
    let y : be16 b' (p + 2) ≡ be16 b (p + 2) = two_at b b' p 4 2 h (omega arith) in
    cc

pub local_mixed : Local r_mixed 6
unfolding r_mixed
local_mixed b b' p h =
    let s : byte b' p ≡ byte b p = ap (byte b') (sym (add-zero p)) ∙ h 0 (omega arith) ∙ ap (byte b) (add-zero p) in
    let t : byte b' (p + 1) ≡ byte b (p + 1) = h 1 (omega arith) in
    let x : be16 b' (p + 2) ≡ be16 b (p + 2) = two_at b b' p 6 2 h (omega arith) in
    let y : be16 b' (p + 4) ≡ be16 b (p + 4) = two_at b b' p 6 4 h (omega arith) in
    cc

pub local_entry : Local r_entry 9
unfolding r_entry
local_entry b b' p h =
    let o : be16 b' p ≡ be16 b p = two_first b b' p 9 h (omega arith) in
    let r : byte b' (p + 2) ≡ byte b (p + 2) = h 2 (omega arith) in
    let n : be32 b' (p + 3) ≡ be32 b (p + 3) = four_at b b' p 9 3 h (omega arith) in
    let g : be16 b' (p + 7) ≡ be16 b (p + 7) = two_at b b' p 9 7 h (omega arith) in
    cc
