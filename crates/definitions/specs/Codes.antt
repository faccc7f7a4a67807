-- 01, 1.8, 3.6 and 7.3: codes and masks by their numbers, and how masks join (7.7).
use Rattle.std.specs.Prelude.{ℕ, Bool, ◌&&◌, ◌||◌, not, leb, eqb}
use Rattle.std.specs.Int.Bits.{bit_or, bit_and}

-- 1.8 Space byte: 0 Function, 1 Private, 2 RayPayload, 3 IncomingRayPayload, 4 WorkGroup, 5 TaskPayload, 6 Uniform, 7 Immediate,
-- 8 Storage without STORE, 9 Storage with STORE, 10 Handle. Spaces 4 to 8 are uniform, the others are not.
unfoldable pub uniform_space : ℕ → Bool
uniform_space s = leb 4 s && leb s 8

-- Uniform or Storage (3.7)
unfoldable pub buffer_space : ℕ → Bool
buffer_space s = eqb s 6 || eqb s 8 || eqb s 9

-- 1.8 Capability bits, each allowing non-uniform indexing
unfoldable pub SAMPLED : ℕ
SAMPLED = 1

unfoldable pub STORAGE_IMAGES : ℕ
STORAGE_IMAGES = 2

unfoldable pub UNIFORM_BUFFERS : ℕ
UNIFORM_BUFFERS = 4

unfoldable pub STORAGE_BUFFERS : ℕ
STORAGE_BUFFERS = 8

-- 7.3 Uses, a mask
unfoldable pub READ : ℕ
READ = 1

unfoldable pub WRITE : ℕ
WRITE = 2

unfoldable pub QUERY : ℕ
QUERY = 4

unfoldable pub ATOMIC : ℕ
ATOMIC = 8

-- 3.6 Requirements, a mask: 1 barrier, 2 derivative, 4 implicit level, 8 cooperative
unfoldable pub BARRIER : ℕ
BARRIER = 1

unfoldable pub DERIVATIVE : ℕ
DERIVATIVE = 2

unfoldable pub IMPLICIT_LEVEL : ℕ
IMPLICIT_LEVEL = 4

unfoldable pub COOPERATIVE : ℕ
COOPERATIVE = 8

-- two masks joined
unfoldable pub join : ℕ → ℕ → ℕ
join x y = bit_or x y

-- x has a bit of the mask y
unfoldable pub meets : ℕ → ℕ → Bool
meets x y = not (eqb (bit_and x y) 0)
