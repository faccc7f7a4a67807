-- Requirements and uses are masks of four bits (01, 3.6 and 7.3): 1, 2, 4 and 8, joined. So every mask is at most 15.
use Prim.Native.Nat.{ℕ, zero, suc, ◌≤◌}
use native.Mathlib.Omega.{arith}
use mathlib.Core.List.{List, [], ◌∷◌}
use mathlib.Core.Bool.{◌&&◌, ◌||◌}
use mathlib.Core.Option.{Option, none, some}
use lib.Bits.{or_lt}
use lib.Dec.{eqb, lit≤}
use lib.ListN.{get_or, set, replicate}
use Rattle.definitions.specs.Codes.{READ, WRITE, QUERY, BARRIER, DERIVATIVE, IMPLICIT_LEVEL, COOPERATIVE, join}
use Rattle.definitions.specs.Roles.{Use, R, Q, C, W}
use Rattle.definitions.specs.State.{mark, marked}
use Rattle.definitions.specs.Expressions.{own_requirements}
use Rattle.definitions.specs.Walk.{join_uses}
use Rattle.definitions.specs.Analyse.{query_unused}
use Rattle.definitions.proofs.Passed.{cond_keeps}

-- a list of masks, one for each global
abbrev pub Masked : List ℕ → Type 0
Masked l = (i : ℕ) → get_or l i 0 ≤ 15

pub join_masked : (x y : ℕ) → x ≤ 15 → y ≤ 15 → join x y ≤ 15
unfolding join
join_masked x y h k = let b = or_lt 4 x y (omega arith) (omega arith) in omega arith

pub none_masked : (n : ℕ) → Masked (replicate n 0)
none_masked zero i = omega arith
none_masked (suc n) zero = omega arith
none_masked (suc n) (suc i) = none_masked n i

set_masked : (l : List ℕ) (g u : ℕ) → Masked l → u ≤ 15 → Masked (set l g u)
set_masked [] g u h k i = h i
set_masked (x ∷ l) zero u h k zero = k
set_masked (x ∷ l) zero u h k (suc i) = h (suc i)
set_masked (x ∷ l) (suc g) u h k zero = h 0
set_masked (x ∷ l) (suc g) u h k (suc i) = set_masked l g u (λ j. h (suc j)) k i

-- 3.3 the use that an operand marks
mark_masked : (u : ℕ) (g : Option ℕ) (l : List ℕ) → u ≤ 15 → Masked l → Masked (mark u g l)
unfolding mark
mark_masked u none l k h = h
mark_masked u (some g) l k h = set_masked l g _ h (join_masked (get_or l g 0) u (h g) k)

pub marked_masked : (u : Use) (g : Option ℕ) (l : List ℕ) → Masked l → Masked (marked u g l)
unfolding marked READ WRITE QUERY
marked_masked R g l h = mark_masked READ g l (lit≤ tt) h
marked_masked Q g l h = mark_masked QUERY g l (lit≤ tt) h
marked_masked W g l h = mark_masked WRITE g l (lit≤ tt) h
marked_masked C g l h = h

-- 5.2 a Call joins its callee's uses
pub join_uses_masked : (xs ys : List ℕ) → Masked xs → Masked ys → Masked (join_uses xs ys)
unfolding join_uses
join_uses_masked [] ys h k i = h i
join_uses_masked (x ∷ xs) [] h k i = h i
join_uses_masked (x ∷ xs) (y ∷ ys) h k zero = join_masked x y (h 0) (k 0)
join_uses_masked (x ∷ xs) (y ∷ ys) h k (suc i) = join_uses_masked xs ys (λ j. h (suc j)) (λ j. k (suc j)) i

-- 6.1 a named expression's global gets QUERY
pub query_masked : (g : Option ℕ) (l : List ℕ) → Masked l → Masked (query_unused g l)
unfolding query_unused QUERY
query_masked none l h = h
query_masked (some g) l h = cond_keeps Masked (eqb (get_or l g QUERY) 0) (set l g QUERY) l (set_masked l g QUERY h (lit≤ tt)) h

-- 3.6 what an expression requires by its kind; 5.2 what a Barrier requires
pub own_masked : (kind sub : ℕ) → own_requirements kind sub ≤ 15
unfolding own_requirements DERIVATIVE IMPLICIT_LEVEL COOPERATIVE
own_masked kind sub =
    cond_keeps (λ r. r ≤ 15) (eqb kind 8) _ _ (lit≤ tt)
    (cond_keeps (λ r. r ≤ 15) (eqb kind 13 && (eqb sub 0 || eqb sub 3)) _ _ (lit≤ tt)
    (cond_keeps (λ r. r ≤ 15) (eqb kind 17 || eqb kind 18) _ _ (lit≤ tt) (lit≤ tt)))

pub barrier_masked : BARRIER ≤ 15
unfolding BARRIER
barrier_masked = lit≤ tt
