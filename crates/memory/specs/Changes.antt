-- What is read from the working memory and what each primitive leaves there, byte for byte. proofs/View says what it
-- is to the state.
use Rattle.std.specs.Prelude.{ℕ, ◌+◌, ◌*◌, cond, List, [], ◌∷◌, map, ltb, eqb, set, drop}
use Rattle.std.proofs.Math.Option.{Option}
use Rattle.definitions.specs.Bytes.{byte, be16, be32, range}
use Rattle.definitions.specs.Codes.{READ, WRITE, QUERY, join}
use Rattle.definitions.specs.Checks.{through}
use Rattle.definitions.specs.Roles.{Use, R, Q, C, W}
use Rattle.definitions.specs.Origin.{Origin, nowhere, or_else, origin_from}
use Rattle.definitions.specs.State.{Operand}
use Rattle.definitions.specs.Report.{global_from, r_section}
use Rattle.definitions.specs.Summary.{Section}
use Rattle.numbers.specs.Stores.{store16, store32}
use Rattle.memory.specs.Layout.{uses_at, pairs_at, sections_at}
use Rattle.memory.specs.View.{count_at}

-- of expression e: its origin, its requirements, its assignable global
unfoldable pub origin_of_line : List ℕ → ℕ → Origin
origin_of_line w e = origin_from (be16 w (9 * e))

unfoldable pub requirements_of_line : List ℕ → ℕ → ℕ
requirements_of_line w e = byte w (9 * e + 2)

unfoldable pub assignable_of_line : List ℕ → ℕ → Option ℕ
assignable_of_line w e = global_from (be16 w (9 * e + 7))

-- the mask that an operand's use marks; one that carries marks nothing (01, 3.3 and 5.2)
unfoldable pub mask_of : Use → ℕ
mask_of R = READ
mask_of Q = QUERY
mask_of W = WRITE
mask_of C = 0

-- one reference more to expression e
unfoldable pub counted_once : List ℕ → ℕ → List ℕ
counted_once w e = store32 w (9 * e + 3) (count_at w (9 * e) + 1)

-- a use marked on global g; nothing where the memory has no use byte for g, as for 65535, which is none
unfoldable pub with_use : List ℕ → ℕ → ℕ → List ℕ
with_use w g u = cond (ltb (uses_at + g) pairs_at) (set w (uses_at + g) (join (byte w (uses_at + g)) u)) w

-- a reference to e that marks u on e's assignable global
unfoldable pub referred : ℕ → List ℕ → ℕ → List ℕ
referred u w e = with_use (counted_once w e) (be16 w (9 * e + 7)) u

-- references, one after another, and the first origin among them (01, 3.2, 3.3 and 3.5)
unfoldable pub refer_line : Operand → List ℕ → List ℕ
refer_line o w = referred (mask_of o.does) w o.target

unfoldable pub refer_lines : List Operand → List ℕ → List ℕ
refer_lines os w = through refer_line os w

unfoldable pub lines_origin : List Operand → List ℕ → Origin
lines_origin [] w = nowhere
lines_origin (o ∷ os) w = or_else (origin_of_line w o.target) (lines_origin os w)

-- the line of expression e: its origin, requirements and assignable global as the report writes them; its count stays
unfoldable pub with_line : List ℕ → ℕ → ℕ → ℕ → ℕ → List ℕ
with_line w e o r a = store16 (set (store16 w (9 * e) o) (9 * e + 2) r) (9 * e + 7) a

-- QUERY on global g, where it has no use at all (01, 6.1)
unfoldable pub with_query : List ℕ → ℕ → List ℕ
with_query w g =
    cond (ltb (uses_at + g) pairs_at) (cond (eqb (byte w (uses_at + g)) 0) (set w (uses_at + g) QUERY) w) w

-- the byte at p + i made anew from i and from what it is
unfoldable pub anew : (ℕ → ℕ → ℕ) → ℕ → ℕ → List ℕ → List ℕ
anew f p i w = set w (p + i) (f i (byte w (p + i)))

unfoldable pub none_left : ℕ → ℕ → ℕ
none_left i x = 0

-- the n bytes from p on become zero
unfoldable pub zeroed : ℕ → ℕ → List ℕ → List ℕ
zeroed p n w = through (anew none_left p) (range 0 n) w

-- where a function's analysis begins: nothing is known, nothing counted, nothing used
unfoldable pub begun : ℕ → ℕ → List ℕ → List ℕ
begun expressions globals w = zeroed uses_at globals (zeroed 0 (9 * expressions) w)

-- the n use bytes of a callee, which stand in b from `at` on, joined to this function's
unfoldable pub joined_with : List ℕ → ℕ → ℕ → ℕ → ℕ
joined_with b at i x = join x (byte b (at + i))

unfoldable pub with_uses : List ℕ → ℕ → ℕ → List ℕ → List ℕ
with_uses b at n w = through (anew (joined_with b at) uses_at) (range 0 n) w

-- the table of sections: where each function's section begins in the report. It stands apart from all else, and is
-- the bytes' last part
unfoldable pub table : List ℕ → List ℕ
table w = drop sections_at w

unfoldable pub section_at : List ℕ → ℕ → ℕ
section_at t f = be32 t (4 * f)

unfoldable pub with_section : List ℕ → ℕ → ℕ → List ℕ
with_section w f at = store32 w (sections_at + 4 * f) at

-- what the report b says of the first f functions, whose sections begin where the table t says; g is the number of
-- globals
unfoldable pub told : ℕ → List ℕ → List ℕ → ℕ → List Section
told g b t f = map (λ i. r_section g b (section_at t i)) (range 0 f)
