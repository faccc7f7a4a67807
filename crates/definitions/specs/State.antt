-- 01, 3.1 to 3.3: what is known of a function while it is analysed, and what an operand does to it.
use Rattle.std.specs.Prelude.{ℕ, suc, List, [], ◌∷◌, true, false, eqb, get_or, set, replicate}
use Rattle.std.proofs.Math.Option.{Option, none, some}
use Rattle.definitions.specs.Bytes.{range}
use Rattle.definitions.specs.Module.{absent, globals, expressions, kind, sub, operand, operand_count, s_kind, s_operand, s_count}
use Rattle.definitions.specs.Codes.{READ, WRITE, QUERY, join}
use Rattle.definitions.specs.Checks.{through}
use Rattle.definitions.specs.Roles.{Use, R, Q, C, W, role, s_role, use_of}
use Rattle.definitions.specs.Origin.{Origin, nowhere}
use Rattle.definitions.specs.Pairs.{Lists, no_pairs}

-- 3.1 Of each expression is known: its origin, its requirements, its reference count, and its assignable global (or none). The counts
-- stand apart, since they go on growing
pub record Known : Type 0 where
  pub origin : Origin
  pub requirements : ℕ
  pub assignable : Option ℕ

pub record State : Type 0 where
  -- of the expressions so far, in order
  pub known : List Known
  -- of all expressions of the function
  pub counts : List ℕ
  -- one mask for each global
  pub uses : List ℕ
  pub lists : Lists

unfoldable pub start : List ℕ → ℕ → State
start m f = record { known = []; counts = replicate (expressions m f) 0; uses = replicate (globals m) 0; lists = no_pairs }

unfoldable pub unknown : Known
unknown = record { origin = nowhere; requirements = 0; assignable = none }

unfoldable pub known_of : State → ℕ → Known
known_of s e = get_or s.known e unknown

-- 3.2, 3.3: an operand that is there, what it does, and the expression that it names
pub record Operand : Type 0 where
  pub does : Use
  pub target : ℕ

unfoldable pub present : (ℕ → Operand) → List ℕ → List Operand
present at [] = []
present at (j ∷ js) = elim (eqb (at j).target absent) [ true ↦ present at js | false ↦ at j ∷ present at js ]

-- the present operands of an expression and of a statement, in the order of 4.1 and 5.2
unfoldable pub operand_at : List ℕ → ℕ → ℕ → ℕ → Operand
operand_at m f e j = record { does = use_of (role (kind m f e) (sub m f e) j); target = operand m f e j }

unfoldable pub operands_of : List ℕ → ℕ → ℕ → List Operand
operands_of m f e = present (operand_at m f e) (range 0 (operand_count m f e))

unfoldable pub s_operand_at : List ℕ → ℕ → ℕ → ℕ → Operand
s_operand_at m f t j = record { does = use_of (s_role (s_kind m f t) j); target = s_operand m f t j }

unfoldable pub s_operands_of : List ℕ → ℕ → ℕ → List Operand
s_operands_of m f t = present (s_operand_at m f t) (range 0 (s_count m f t))

-- 3.2 Every present operand adds one to the reference count of the expression that it names
unfoldable pub counted : ℕ → List ℕ → List ℕ
counted x counts = set counts x (suc (get_or counts x 0))

-- a use marked on a global, if there is one
unfoldable pub mark : ℕ → Option ℕ → List ℕ → List ℕ
mark u none uses = uses
mark u (some g) uses = set uses g (join (get_or uses g 0) u)

-- 3.3 An operand that reads (R) or queries (Q) marks READ or QUERY on the assignable global of the expression that it names, if that has
-- one. An operand that carries (C) marks nothing. 5.2: W marks WRITE, as R marks READ
unfoldable pub marked : Use → Option ℕ → List ℕ → List ℕ
marked R g uses = mark READ g uses
marked Q g uses = mark QUERY g uses
marked W g uses = mark WRITE g uses
marked C g uses = uses

unfoldable pub refer : Operand → State → State
refer o s = record {
  known = s.known;
  counts = counted o.target s.counts;
  uses = marked o.does (known_of s o.target).assignable s.uses;
  lists = s.lists;
}

unfoldable pub refer_all : List Operand → State → State
refer_all os s = through refer os s

-- 3.3 an operand that carries (C) hands the assignable global of the expression that it names to the record it stands in
unfoldable pub handed_by : Use → Option ℕ → Option ℕ
handed_by R g = none
handed_by Q g = none
handed_by W g = none
handed_by C g = g

-- what a record carries once it is handed a global, or none
unfoldable pub carry : Option ℕ → Option ℕ → Option ℕ
carry none carried = carried
carry (some g) carried = some g

-- what a record carries once its operands have handed it what they carry. 3.4 No record is handed two
unfoldable pub carried : List Operand → State → Option ℕ → Option ℕ
carried os s own = through (λ o c. carry (handed_by o.does (known_of s o.target).assignable) c) os own
