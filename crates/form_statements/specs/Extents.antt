-- The open extents. The code keeps, of the statements that are around the present one, their numbers, kinds and ends,
-- and how many statements each directly holds so far (01, 2.8 and 2.9); these definitions say what that is in the
-- module, and what one statement more does to it.
use Rattle.std.specs.Prelude.{ℕ, zero, suc, ◌<◌, ◌≡◌, length, List, [], ◌∷◌, map, Bool, cond, ◌&&◌, ◌||◌, not, ltb, leb, eqb, get_or, Option, Some, None}
use Rattle.definitions.specs.Bytes.{range}
use Rattle.definitions.specs.Module.{s_kind, s_end}
use Rattle.definitions.specs.Checks.{count}
use Rattle.definitions.specs.Form.{inside, owner, arms}
use Rattle.limits.specs.Sizes.{open_extents_size}
use Rattle.form_statements.specs.declared.extents.Extent.{Extent}

-- the statements before n that t is inside of, the last first
unfoldable pub around : List ℕ → ℕ → ℕ → ℕ → List ℕ
around m f t zero = []
around m f t (suc n) = cond (inside m f t n) (n ∷ around m f t n) (around m f t n)

-- how many of the statements before t are directly held by s
unfoldable pub held_before : List ℕ → ℕ → ℕ → ℕ → ℕ
held_before m f t s = count (λ u. eqb (owner m f u) (suc s)) (range 0 t)

-- the extents that are open at t, the last first: of each its statement, and how many it holds so far
unfoldable pub extent_at : List ℕ → ℕ → ℕ → ℕ → Extent
extent_at m f t s = record { statement = s; kind = s_kind m f s; end = s_end m f s; holds = held_before m f t s }

unfoldable pub open_at : List ℕ → ℕ → ℕ → List Extent
open_at m f t = map (extent_at m f t) (around m f t t)

-- an If or a Loop directly holds exactly two arms (2.5, 7): one of a kind that holds n breaks that rule
unfoldable pub miscounts : ℕ → ℕ → Bool
miscounts kind n = (eqb kind 8 || eqb kind 10) && not (eqb n 2)

unfoldable pub miscounted : List ℕ → ℕ → ℕ → Bool
miscounted m f s = miscounts (s_kind m f s) (arms m f s)

-- a statement s stands before another, or there is no other; and the first of the two
abbrev pub IsBefore : ℕ → Option ℕ → Type 0
IsBefore s None = Unit {0}
IsBefore s (Some b) = s < b

unfoldable pub first_of : ℕ → Option ℕ → Option ℕ
first_of s None = Some s
first_of s (Some b) = cond (ltb s b) (Some s) (Some b)

-- the first miscounted statement among those that are closed: `bad`, or x where it is closed now, breaks the rule and
-- stands before
unfoldable pub judged : Extent → Option ℕ → Option ℕ
judged x bad = cond (miscounts x.kind x.holds) (first_of x.statement bad) bad

-- what is open, and the first miscounted statement of what is closed
pub record ClosingState : Type 0 where
  pub extents : List Extent
  pub bad : Option ℕ

-- the extents that end at t or before are closed, from the last on
unfoldable pub closing : ℕ → List Extent → Option ℕ → ClosingState
closing t [] bad = record { extents = []; bad = bad }
closing t (x ∷ xs) bad = cond (leb x.end t) (closing t xs (judged x bad)) (record { extents = x ∷ xs; bad = bad })

-- the extent of a statement that is opened now
abbrev pub opened : ℕ → ℕ → ℕ → Extent
opened s kind end = record { statement = s; kind = kind; end = end; holds = 0 }

-- one statement more is held by an extent, and by the last of several
abbrev pub one_more : Extent → Extent
one_more x = record { statement = x.statement; kind = x.kind; end = x.end; holds = suc x.holds }

unfoldable pub holding : List Extent → List Extent
holding [] = []
holding (x ∷ xs) = one_more x ∷ xs

-- What the code keeps: the extents of the statements around the present one, the last first, and the table's, which
-- holds what has no owner.
pub record OpenValue : Type 0 where
  pub extents : List Extent
  pub table : Extent

-- the table's extent, of n statements: it stands as a Block that ends with the table
abbrev pub table_of : ℕ → Extent
table_of n = opened 0 7 n

-- the last extent, which holds the present statement; and the same where it holds one more
unfoldable pub last_of : OpenValue → Extent
last_of o = elim o.extents [ [] ↦ o.table | x ∷ xs ↦ x ]

unfoldable pub holding_last : OpenValue → OpenValue
holding_last o = record { extents = holding o.extents; table = elim o.extents [ [] ↦ one_more o.table | x ∷ xs ↦ o.table ] }

-- What four arrays and a depth d hold: the extent at each place from d down to 1, and the table's at place 0. `at` is
-- the extent at a place of the arrays, and one of zeros past them.
unfoldable pub at : List ℕ → List ℕ → List ℕ → List ℕ → ℕ → Extent
at statements kinds ends holds i = record { statement = get_or statements i 0; kind = get_or kinds i 0; end = get_or ends i 0; holds = get_or holds i 0 }

unfoldable pub stack : (ℕ → Extent) → ℕ → List Extent
stack place zero = []
stack place (suc d) = place (suc d) ∷ stack place d

abbrev pub open_value : (ℕ → Extent) → ℕ → OpenValue
open_value place d = record { extents = stack place d; table = place 0 }

-- each array is as long as it must be, and the depth is a place of it
pub record ValidStack (statements kinds ends holds : List ℕ) (d : ℕ) : Type 0 where
  pub statements_long : length statements ≡ open_extents_size
  pub kinds_long : length kinds ≡ open_extents_size
  pub ends_long : length ends ≡ open_extents_size
  pub holds_long : length holds ≡ open_extents_size
  pub shallow : d < open_extents_size
