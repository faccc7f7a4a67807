-- What is read after a store: at the same place what was stored, at places that the store does not touch what was there. Assumes nothing.
use Prim.Native.Nat.{ℕ, ◌+◌, ◌/◌, ◌%◌, ◌<◌, ◌≤◌}
use mathlib.Core.Path.{◌≡◌, ◌∙◌}
use mathlib.Core.List.{List}
use native.Mathlib.Omega.{arith}
use lib.ListN.{length, set, length-set}
use lib.Seq.{get_or-set_same, get_or-set_other}
use Rattle.definitions.specs.Bytes.{byte, be16, be32}
use Rattle.numbers.specs.Stores.{store16, store32}

-- the n places from a and the m places from b have none in common
abbrev pub Apart : ℕ → ℕ → ℕ → ℕ → Type 0
Apart a n b m = a < b + m → b < a + n → ⊥

pub length_store16 : (l : List ℕ) (at v : ℕ) → length (store16 l at v) ≡ length l
unfolding store16
length_store16 l at v = simp length-set

pub length_store32 : (l : List ℕ) (at v : ℕ) → length (store32 l at v) ≡ length l
unfolding store32
length_store32 l at v = simp length_store16

-- one byte
pub byte_set : (l : List ℕ) (at v : ℕ) → at < length l → byte (set l at v) at ≡ v
unfolding byte
byte_set l at v h = get_or-set_same l at v 0 h

pub byte_set_apart : (l : List ℕ) (at v j : ℕ) → Apart at 1 j 1 → byte (set l at v) j ≡ byte l j
unfolding byte
byte_set_apart l at v j h = get_or-set_other l at j v 0 (λ e. h (omega arith) (omega arith))

pub byte_store16_apart : (l : List ℕ) (at v j : ℕ) → Apart at 2 j 1 → byte (store16 l at v) j ≡ byte l j
unfolding store16
byte_store16_apart l at v j h =
    byte_set_apart (set l at (v / 256)) (at + 1) (v % 256) j (λ p q. h (omega arith) (omega arith))
    ∙ byte_set_apart l at (v / 256) j (λ p q. h (omega arith) (omega arith))

pub byte_store32_apart : (l : List ℕ) (at v j : ℕ) → Apart at 4 j 1 → byte (store32 l at v) j ≡ byte l j
unfolding store32
byte_store32_apart l at v j h =
    byte_store16_apart (store16 l at (v / 65536)) (at + 2) (v % 65536) j (λ p q. h (omega arith) (omega arith))
    ∙ byte_store16_apart l at (v / 65536) j (λ p q. h (omega arith) (omega arith))

-- two lists that agree at the bytes of a number have the same number there
pub be16_same : (l l' : List ℕ) (j : ℕ) → byte l j ≡ byte l' j → byte l (j + 1) ≡ byte l' (j + 1) → be16 l j ≡ be16 l' j
unfolding be16
be16_same l l' j p q = cc

pub be32_same : (l l' : List ℕ) (j : ℕ) → be16 l j ≡ be16 l' j → be16 l (j + 2) ≡ be16 l' (j + 2) → be32 l j ≡ be32 l' j
unfolding be32
be32_same l l' j p q = cc

-- two bytes
pub be16_set_apart : (l : List ℕ) (at v j : ℕ) → Apart at 1 j 2 → be16 (set l at v) j ≡ be16 l j
be16_set_apart l at v j h =
    be16_same (set l at v) l j (byte_set_apart l at v j (λ p q. h (omega arith) (omega arith)))
    (byte_set_apart l at v (j + 1) (λ p q. h (omega arith) (omega arith)))

pub be16_store16_apart : (l : List ℕ) (at v j : ℕ) → Apart at 2 j 2 → be16 (store16 l at v) j ≡ be16 l j
be16_store16_apart l at v j h =
    be16_same (store16 l at v) l j (byte_store16_apart l at v j (λ p q. h (omega arith) (omega arith)))
    (byte_store16_apart l at v (j + 1) (λ p q. h (omega arith) (omega arith)))

pub be16_store32_apart : (l : List ℕ) (at v j : ℕ) → Apart at 4 j 2 → be16 (store32 l at v) j ≡ be16 l j
be16_store32_apart l at v j h =
    be16_same (store32 l at v) l j (byte_store32_apart l at v j (λ p q. h (omega arith) (omega arith)))
    (byte_store32_apart l at v (j + 1) (λ p q. h (omega arith) (omega arith)))

-- four bytes
pub be32_set_apart : (l : List ℕ) (at v j : ℕ) → Apart at 1 j 4 → be32 (set l at v) j ≡ be32 l j
be32_set_apart l at v j h =
    be32_same (set l at v) l j (be16_set_apart l at v j (λ p q. h (omega arith) (omega arith)))
    (be16_set_apart l at v (j + 2) (λ p q. h (omega arith) (omega arith)))

pub be32_store16_apart : (l : List ℕ) (at v j : ℕ) → Apart at 2 j 4 → be32 (store16 l at v) j ≡ be32 l j
be32_store16_apart l at v j h =
    be32_same (store16 l at v) l j (be16_store16_apart l at v j (λ p q. h (omega arith) (omega arith)))
    (be16_store16_apart l at v (j + 2) (λ p q. h (omega arith) (omega arith)))

pub be32_store32_apart : (l : List ℕ) (at v j : ℕ) → Apart at 4 j 4 → be32 (store32 l at v) j ≡ be32 l j
be32_store32_apart l at v j h =
    be32_same (store32 l at v) l j (be16_store32_apart l at v j (λ p q. h (omega arith) (omega arith)))
    (be16_store32_apart l at v (j + 2) (λ p q. h (omega arith) (omega arith)))

-- what was stored
pub be16_store16 : (l : List ℕ) (at v : ℕ) → at + 2 ≤ length l → be16 (store16 l at v) at ≡ v
unfolding store16 be16
be16_store16 l at v h =
    let hi : byte (set (set l at (v / 256)) (at + 1) (v % 256)) at ≡ v / 256 =
    byte_set_apart (set l at (v / 256)) (at + 1) (v % 256) at (λ p q. omega arith) ∙ byte_set l at (v / 256) (omega arith) in
    let lo : byte (set (set l at (v / 256)) (at + 1) (v % 256)) (at + 1) ≡ v % 256 =
    byte_set (set l at (v / 256)) (at + 1) (v % 256) (simp length-set (omega arith)) in
    omega arith

pub be32_store32 : (l : List ℕ) (at v : ℕ) → at + 4 ≤ length l → be32 (store32 l at v) at ≡ v
unfolding store32 be32
be32_store32 l at v h =
    let hi : be16 (store16 (store16 l at (v / 65536)) (at + 2) (v % 65536)) at ≡ v / 65536 =
    be16_store16_apart (store16 l at (v / 65536)) (at + 2) (v % 65536) at (λ p q. omega arith) ∙ be16_store16 l at (v / 65536) (omega arith) in
    let lo : be16 (store16 (store16 l at (v / 65536)) (at + 2) (v % 65536)) (at + 2) ≡ v % 65536 =
    be16_store16 (store16 l at (v / 65536)) (at + 2) (v % 65536) (simp length_store16 (omega arith)) in
    omega arith

-- each element is a byte: what a slice of bytes knows of itself
pub record ValidBytes (l : List ℕ) : Type 0 where
  pub small : (i : ℕ) → byte l i < 256
