-- 01, 1.1: numbers in a list of bytes. All are unsigned and big-endian.
use Rattle.std.specs.Prelude.{ℕ, zero, suc, ◌+◌, ◌*◌, ◌/◌, ◌%◌, List, [], ◌∷◌, get_or}

-- u8 is one byte; past the end there are zeros
unfoldable pub byte : List ℕ → ℕ → ℕ
byte m i = get_or m i 0

-- u16 is two bytes
unfoldable pub be16 : List ℕ → ℕ → ℕ
be16 m i = 256 * byte m i + byte m (i + 1)

-- u32 is four bytes
unfoldable pub be32 : List ℕ → ℕ → ℕ
be32 m i = 65536 * be16 m i + be16 m (i + 2)

-- the bytes of a u16 and of a u32
unfoldable pub put16 : ℕ → List ℕ
put16 x = (x / 256) ∷ (x % 256) ∷ []

unfoldable pub put32 : ℕ → List ℕ
put32 x = (x / 16777216) ∷ (x / 65536 % 256) ∷ (x / 256 % 256) ∷ (x % 256) ∷ []

-- the n numbers from i on: the records of a part, the places of an operand list
unfoldable pub range : ℕ → ℕ → List ℕ
range i zero = []
range i (suc n) = i ∷ range (suc i) n
