-- 01, 4.1, 4.2 and 5.2: what each operand of a record does, and whether it must be there. Nothing else knows a kind's operands.
use Rattle.std.specs.Prelude.{ℕ, List, [], ◌∷◌, Bool, true, false, cond, ◌&&◌, ◌||◌, not, leb, eqb, get_or, length}
use Rattle.definitions.specs.Module.{absent}

-- R reads, Q queries, C carries, W writes
pub data Use : Type 0 where
  R Q C W : Use

-- an operand must be there, may be there (?), or must be absent; or the record has none at that position
pub data Role : Type 0 where
  must may : Use → Role
  mustn't no_operand : Role

-- 4.2 With Auto and Zero both levels are absent; with Exact and Bias level 1 is there and level 2 absent; with Gradient both are there
unfoldable pub level_1 : ℕ → Role
level_1 sub = cond (leb 2 sub) (must R) mustn't

unfoldable pub level_2 : ℕ → Role
level_2 sub = cond (eqb sub 4) (must R) mustn't

-- 4.1 Kinds of expression and their operands, in the order in which the first non-uniform one is chosen
unfoldable pub operands_by_kind : ℕ → List (List Role)
operands_by_kind sub =
    -- 0 Literal, Constant, Override, ZeroValue, WorkGroupUniformLoadResult
    []
    -- 1 FunctionArgument
    ∷ []
    -- 2 GlobalVariable
    ∷ []
    -- 3 LocalVariable, AtomicResult, RayQueryProceedResult, SubgroupBallotResult, SubgroupOperationResult
    ∷ []
    -- 4 CallResult
    ∷ []
    -- 5 Access: base, index
    ∷ (must C ∷ must R ∷ [])
    -- 6 AccessIndex: base
    ∷ (must C ∷ [])
    -- 7 Splat, Swizzle, Unary, Relational, As, Load, RayQueryGetIntersection, RayQueryVertexPositions
    ∷ (must R ∷ [])
    -- 8 Derivative
    ∷ (must R ∷ [])
    -- 9 Binary
    ∷ (must R ∷ must R ∷ [])
    -- 10 Select
    ∷ (must R ∷ must R ∷ must R ∷ [])
    -- 11 Compose: any number, so `role` and `takes` have it
    ∷ []
    -- 12 Math
    ∷ (must R ∷ may R ∷ may R ∷ may R ∷ [])
    -- 13 ImageSample: image, sampler, coordinate, array, level 1, level 2, depth, offset
    ∷ (must R ∷ must R ∷ must R ∷ may R ∷ level_1 sub ∷ level_2 sub ∷ may R ∷ may R ∷ [])
    -- 14 ImageLoad: image, coordinate, array, sample, level
    ∷ (must R ∷ must R ∷ may R ∷ may R ∷ may R ∷ [])
    -- 15 ImageQuery: image, level
    ∷ (must Q ∷ may R ∷ [])
    -- 16 ArrayLength
    ∷ (must Q ∷ [])
    -- 17 CooperativeLoad
    ∷ (must R ∷ must R ∷ [])
    -- 18 CooperativeMultiplyAdd
    ∷ (must R ∷ must R ∷ must R ∷ [])
    ∷ []

-- the role of an expression's operand, by kind, sub and position; 11 Compose has any number of R, none of them absent
unfoldable pub role : ℕ → ℕ → ℕ → Role
role kind sub j = cond (eqb kind 11) (must R) (get_or (get_or (operands_by_kind sub) kind []) j no_operand)

-- the count is always that of the full list
unfoldable pub takes : ℕ → ℕ → Bool
takes kind n = eqb kind 11 || eqb n (length (get_or (operands_by_kind 0) kind []))

-- 4.1 `sub` is zero in all but two kinds: in 5 it is 0 to 3, in 13 it is the level, 0 to 4
unfoldable pub has_sub : ℕ → ℕ → Bool
has_sub kind sub = cond (eqb kind 5) (leb sub 3) (cond (eqb kind 13) (leb sub 4) (eqb sub 0))

-- 1.9 `number` has a use in expressions of kinds 1, 2 and 4
unfoldable pub has_number : ℕ → Bool
has_number kind = eqb kind 1 || eqb kind 2 || eqb kind 4

-- 5.2 the role of a statement's operand, by kind and position: a Store's pointer is W, all else is R
unfoldable pub s_role : ℕ → ℕ → Role
s_role kind j = cond (eqb kind 5 && eqb j 0) (must W) (must R)

-- 5.2 how many operands a statement takes: Return (4) and Loop (10) 0 or 1, Store (5) two, Call (6) any number, If (8) and Switch (9)
-- one, the others none
unfoldable pub s_takes : ℕ → ℕ → Bool
s_takes kind n =
    cond (eqb kind 4 || eqb kind 10) (leb n 1)
    (cond (eqb kind 5) (eqb n 2)
    (cond (eqb kind 6) true
    (cond (eqb kind 8 || eqb kind 9) (eqb n 1) (eqb n 0))))

-- 2.7 the sub of a statement: 0 and 1 for Arm, 0 for the others
unfoldable pub s_has_sub : ℕ → ℕ → Bool
s_has_sub kind sub = cond (eqb kind 11) (leb sub 1) (eqb sub 0)

-- 1.9 `number` has a use in the statements Emit and Call
unfoldable pub s_has_number : ℕ → Bool
s_has_number kind = eqb kind 0 || eqb kind 6

-- what an operand does, where it is there
unfoldable pub use_of : Role → Use
use_of (must u) = u
use_of (may u) = u
use_of mustn't = R
use_of no_operand = R

-- 2.6 an operand that is absent where its kind and sub want it, or present where they want none
unfoldable pub misplaced : Role → ℕ → Bool
misplaced (must u) x = eqb x absent
misplaced (may u) x = false
misplaced mustn't x = not (eqb x absent)
misplaced no_operand x = false
