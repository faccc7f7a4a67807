-- How large a reference count can get: no larger than the operands that were there so far. So it fits its field (01, 7.4).
use Prim.Native.Nat.{ℕ, zero, suc, ◌+◌, ◌*◌, ◌≤◌, ◌<◌}
use native.Mathlib.Omega.{arith}
use native.Mathlib.Nat.{suc-mul}
use mathlib.Core.List.{List, [], ◌∷◌}
use mathlib.Core.Path.{◌≡◌, refl, ap, subst}
use mathlib.Core.Logic.{inl, inr}
use mathlib.Core.Bool.{Bool, true, false}
use lib.Dec.{eqb}
use lib.ListN.{length, get_or, set, replicate}
use borrow.Author.Tests.{eqb-true, leb-true, not-false}
use Rattle.definitions.specs.Bytes.{range}
use Rattle.definitions.specs.Limits.{Limits}
use Rattle.definitions.specs.Module.{absent, expressions, operands, statements, initialisers, operand_count, first_operand, s_kind, s_count, s_first}
use Rattle.definitions.specs.Checks.{fine, through}
use Rattle.definitions.specs.Form.{in_pool, s_in_pool}
use Rattle.definitions.specs.State.{State, start, Operand, present, operand_at, s_operand_at, operands_of, s_operands_of, counted, refer, refer_all}
use Rattle.definitions.specs.Summary.{Section}
use Rattle.definitions.specs.Expressions.{with_expression, expression_step}
use Rattle.definitions.specs.Walk.{called, call, effect}
use Rattle.definitions.specs.Analyse.{initialise}
use Rattle.definitions.specs.Counting.{sum_over, references}
use Rattle.definitions.specs.Chains.{Mem}
use Rattle.definitions.proofs.Fold.{bind_fine, fine_inj}
use Rattle.definitions.proofs.Ranges.{range_from}
use Rattle.definitions.proofs.Runs.{range_length}
use Rattle.definitions.proofs.Formed.{SheetFormed}

-- every count is at most k
unfoldable pub CountsWithin : ℕ → State → Type 0
CountsWithin k s = (x : ℕ) → get_or s.counts x 0 ≤ k

bump_within : (l : List ℕ) (x k : ℕ) → ((y : ℕ) → get_or l y 0 ≤ k) → (y : ℕ) → get_or (set l x (suc (get_or l x 0))) y 0 ≤ suc k
bump_within [] x k h y = let a = h y in omega arith
bump_within (c ∷ l) zero k h zero = let a = h 0 in omega arith
bump_within (c ∷ l) zero k h (suc y) = let a = h (suc y) in omega arith
bump_within (c ∷ l) (suc x) k h zero = let a = h 0 in omega arith
bump_within (c ∷ l) (suc x) k h (suc y) = bump_within l x k (λ z. h (suc z)) y

pub more_within : (k n : ℕ) (s : State) → k ≤ n → CountsWithin k s → CountsWithin n s
unfolding CountsWithin
more_within k n s h i x = let a = i x in omega arith

pub refer_within : (k : ℕ) (o : Operand) (s : State) → CountsWithin k s → CountsWithin (suc k) (refer o s)
unfolding CountsWithin refer counted
refer_within k o s i = bump_within s.counts o.target k i

pub refer_all_within : (k : ℕ) (os : List Operand) (s : State) → CountsWithin k s → CountsWithin (k + length os) (refer_all os s)
unfolding refer_all through
refer_all_within k [] s i = more_within k (k + 0) s (omega arith) i
refer_all_within k (o ∷ os) s i = more_within _ _ (refer_all os (refer o s)) (omega arith) (refer_all_within (suc k) os (refer o s) (refer_within k o s i))

pub present_short : (op : ℕ → Operand) (l : List ℕ) → length (present op l) ≤ length l
unfolding present
present_short op [] = omega arith
present_short op (j ∷ l) = go (eqb (op j).target absent) refl (present_short op l)
  where
    go : (b : Bool) → eqb (op j).target absent ≡ b → length (present op l) ≤ length l → length (present op (j ∷ l)) ≤ suc (length l)
    go true w ih = rw (w, present) (omega arith)
    go false w ih = rw (w, present) (omega arith)

pub start_within : (m : List ℕ) (f : ℕ) → CountsWithin 0 (start m f)
unfolding CountsWithin start
start_within m f x = zeros (expressions m f) x
  where
    zeros : (n x : ℕ) → get_or (replicate n 0) x 0 ≤ 0
    zeros zero x = omega arith
    zeros (suc n) zero = omega arith
    zeros (suc n) (suc x) = zeros n x

module _ (L : Limits) (m : List ℕ) (f : ℕ) where
  operands_short : (e : ℕ) → length (operands_of m f e) ≤ operand_count m f e
  unfolding operands_of
  operands_short e = let a = range_length 0 (operand_count m f e) in let b = present_short (operand_at m f e) (range 0 (operand_count m f e)) in omega (arith, a, b)

  s_operands_short : (t : ℕ) → length (s_operands_of m f t) ≤ s_count m f t
  unfolding s_operands_of
  s_operands_short t = let a = range_length 0 (s_count m f t) in let b = present_short (s_operand_at m f t) (range 0 (s_count m f t)) in omega (arith, a, b)

  module _ (done : List Section) where
    pub expression_within : (k e : ℕ) (s s' : State) → expression_step L m done f e s ≡ fine s' → CountsWithin k s → CountsWithin (k + operand_count m f e) s'
    unfolding expression_step with_expression CountsWithin
    expression_within k e s s' q i =
        let a = bind_fine _ _ q in
        let b = bind_fine _ _ a.2 in
        let n = operands_short e in
        let r = more_within (k + length (operands_of m f e)) (k + operand_count m f e) (refer_all (operands_of m f e) s) (omega arith) (refer_all_within k (operands_of m f e) s i) in
        subst (CountsWithin (k + operand_count m f e)) (fine_inj b.2) r

    pub effect_within : (k t : ℕ) (s s' : State) → effect L m done f t s ≡ fine s' → CountsWithin k s → CountsWithin (k + s_count m f t) s'
    unfolding effect call called CountsWithin
    effect_within k t s s' q i = go (eqb (s_kind m f t) 6) refl
      where
        K : ℕ
        K = k + s_count m f t

        r : CountsWithin K (refer_all (s_operands_of m f t) s)
        r = let n = s_operands_short t in more_within (k + length (s_operands_of m f t)) K (refer_all (s_operands_of m f t) s) (omega arith) (refer_all_within k (s_operands_of m f t) s i)

        go : (b : Bool) → eqb (s_kind m f t) 6 ≡ b → CountsWithin K s'
        go true w = let a = bind_fine _ _ (rw (w, effect) at q) in subst (CountsWithin K) (fine_inj a.2) r
        go false w = subst (CountsWithin K) (fine_inj (rw (w, effect) at q)) r

  pub initialise_within : (k i : ℕ) (s : State) → CountsWithin k s → CountsWithin (suc k) (initialise m f i s)
  unfolding initialise
  initialise_within k i s h = refer_within k _ s h

  -- a record whose form has passed has no more operands than the pool
  pub operands_pooled : (e : ℕ) → SheetFormed L m f → e < expressions m f → operand_count m f e ≤ operands m f
  unfolding in_pool
  operands_pooled e h lt = let a = leb-true (first_operand m f e + operand_count m f e) (operands m f) (not-false _ (h.each_expression e lt).pooled) in omega arith

  pub s_operands_pooled : (t : ℕ) → SheetFormed L m f → t < statements m f → s_count m f t ≤ operands m f
  unfolding s_in_pool
  s_operands_pooled t h lt = go (eqb (s_count m f t) 0) refl (not-false _ (h.each_statement t lt).pooled)
    where
      go : (b : Bool) → eqb (s_count m f t) 0 ≡ b → s_in_pool m f t ≡ true → s_count m f t ≤ operands m f
      go true w q = let a = eqb-true (s_count m f t) 0 w in omega arith
      go false w q = let a = leb-true (s_first m f t + s_count m f t) (operands m f) (rw w at q) in omega arith

sum_short : (w : ℕ → ℕ) (k : ℕ) (l : List ℕ) → ((i : ℕ) → Mem i l → w i ≤ k) → sum_over w l ≤ length l * k
unfolding sum_over
sum_short w k [] h = omega arith
sum_short w k (i ∷ l) h =
    let a = h i (inl refl) in
    let b = sum_short w k l (λ j q. h j (inr q)) in
    let c = suc-mul (length l) k in
    omega arith

-- and all of a function's counts together are no more than its records and its pool allow
pub references_within : (L : Limits) (m : List ℕ) (f : ℕ) → SheetFormed L m f
    → references m f ≤ expressions m f * operands m f + statements m f * operands m f + initialisers m f
unfolding references
references_within L m f h =
    let a = sum_short (λ e. length (operands_of m f e)) (operands m f) (range 0 (expressions m f))
    (λ e q. let x = range_from 0 _ e q in let y = operands_pooled L m f e h (omega arith) in let z = operands_short L m f e in omega arith) in
    let b = sum_short (λ t. length (s_operands_of m f t)) (operands m f) (range 0 (statements m f))
    (λ t q. let x = range_from 0 _ t q in let y = s_operands_pooled L m f t h (omega arith) in let z = s_operands_short L m f t in omega arith) in
    let c = ap (λ n. n * operands m f) (range_length 0 (expressions m f)) in
    let d = ap (λ n. n * operands m f) (range_length 0 (statements m f)) in
    omega arith
