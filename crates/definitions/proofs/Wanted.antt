-- What the form checks (01, 2.6) give of the operands of an expression: those that its kind wants are there, and name
-- earlier expressions.
use Prim.Native.Nat.{ℕ, ◌+◌, ◌<◌, ◌≤◌}
use native.Mathlib.Omega.{arith}
use mathlib.Core.Path.{◌≡◌, refl}
use mathlib.Core.List.{List}
use mathlib.Core.Logic.{◌⊎◌, inl, inr}
use mathlib.Core.Bool.{Bool, true, false}
use lib.Dec.{eqb}
use borrow.Author.Tests.{eqb-true, eqb-false, leb-true, not-false}
use Rattle.definitions.specs.Bytes.{range}
use Rattle.definitions.specs.Module.{kind, sub, absent, operands, first_operand, operand, operand_count}
use Rattle.definitions.specs.Roles.{Use, R, C, must, role, takes, operands_by_kind, misplaced}
use Rattle.definitions.specs.Form.{in_pool, some_misplaced}
use Rattle.definitions.proofs.Passed.{any_none, when_left}
use Rattle.definitions.proofs.Formed.{ExpressionFormed, operand_in}
use Rattle.definitions.proofs.Ranges.{range_to}

module _ (m : List ℕ) (f e : ℕ) (formed : ExpressionFormed m f e) where
  is_in_pool : in_pool m f e ≡ true
  is_in_pool = not-false (in_pool m f e) formed.pooled

  pub pooled_within : first_operand m f e + operand_count m f e ≤ operands m f
  unfolding in_pool
  pooled_within = leb-true (first_operand m f e + operand_count m f e) (operands m f) is_in_pool

  -- 2.6 an operand that its kind wants is there, and is an earlier expression
  pub wanted : (j : ℕ) (u : Use) → j < operand_count m f e → role (kind m f e) (sub m f e) j ≡ must u → operand m f e j < e
  unfolding some_misplaced misplaced
  wanted j u lt r = go (operand_in m f e formed j lt)
    where
      at_j : misplaced (role (kind m f e) (sub m f e) j) (operand m f e j) ≡ false
      at_j =
          any_none (λ i. misplaced (role (kind m f e) (sub m f e) i) (operand m f e i)) (range 0 (operand_count m f e))
          (when_left (in_pool m f e) (some_misplaced m f e) is_in_pool formed.none_misplaced) j (range_to 0 (operand_count m f e) j (omega arith) (omega arith))

      there : eqb (operand m f e j) absent ≡ false
      there = rw r at at_j

      go : (operand m f e j ≡ absent) ⊎ (operand m f e j < e) → operand m f e j < e
      go (inl q) = absurd (eqb-false (operand m f e j) absent there q)
      go (inr q) = q

  pub takes_as_many : takes (kind m f e) (operand_count m f e) ≡ true
  takes_as_many = not-false (takes (kind m f e) (operand_count m f e)) formed.count_fits

  pub access_takes : kind m f e ≡ 5 → operand_count m f e ≡ 2
  unfolding takes operands_by_kind
  access_takes k = eqb-true (operand_count m f e) 2 (rw k at takes_as_many)

  pub access_index_takes : kind m f e ≡ 6 → operand_count m f e ≡ 1
  unfolding takes operands_by_kind
  access_index_takes k = eqb-true (operand_count m f e) 1 (rw k at takes_as_many)

  pub sample_takes : kind m f e ≡ 13 → operand_count m f e ≡ 8
  unfolding takes operands_by_kind
  sample_takes k = eqb-true (operand_count m f e) 8 (rw k at takes_as_many)

  access_base : kind m f e ≡ 5 → operand m f e 0 < e
  unfolding role operands_by_kind
  access_base k = let n = access_takes k in wanted 0 C (omega arith) (rw k)

  access_index_base : kind m f e ≡ 6 → operand m f e 0 < e
  unfolding role operands_by_kind
  access_index_base k = let n = access_index_takes k in wanted 0 C (omega arith) (rw k)

  pub sample_image : kind m f e ≡ 13 → operand m f e 0 < e
  unfolding role operands_by_kind
  sample_image k = let n = sample_takes k in wanted 0 R (omega arith) (rw k)

  pub sample_sampler : kind m f e ≡ 13 → operand m f e 1 < e
  unfolding role operands_by_kind
  sample_sampler k = let n = sample_takes k in wanted 1 R (omega arith) (rw k)

  pub sample_pooled : kind m f e ≡ 13 → first_operand m f e + 1 < operands m f
  sample_pooled k = let n = sample_takes k in let p = pooled_within in omega arith

  one_of_two : (k : ℕ) → 5 ≤ k → k ≤ 6 → (k ≡ 5) ⊎ (k ≡ 6)
  one_of_two k a b = go (eqb k 5) refl
    where
      go : (t : Bool) → eqb k 5 ≡ t → (k ≡ 5) ⊎ (k ≡ 6)
      go true q = inl (eqb-true k 5 q)
      go false q = let n = eqb-false k 5 q in inr (omega arith)

  pub base_pooled : 5 ≤ kind m f e → kind m f e ≤ 6 → first_operand m f e < operands m f
  base_pooled a b = go (one_of_two (kind m f e) a b)
    where
      go : (kind m f e ≡ 5) ⊎ (kind m f e ≡ 6) → first_operand m f e < operands m f
      go (inl k) = let n = access_takes k in let p = pooled_within in omega arith
      go (inr k) = let n = access_index_takes k in let p = pooled_within in omega arith

  pub base_earlier : 5 ≤ kind m f e → kind m f e ≤ 6 → operand m f e 0 < e
  base_earlier a b = go (one_of_two (kind m f e) a b)
    where
      go : (kind m f e ≡ 5) ⊎ (kind m f e ≡ 6) → operand m f e 0 < e
      go (inl k) = access_base k
      go (inr k) = access_index_base k

  pub base_counts : 5 ≤ kind m f e → kind m f e ≤ 6 → 0 < operand_count m f e
  base_counts a b = go (one_of_two (kind m f e) a b)
    where
      go : (kind m f e ≡ 5) ⊎ (kind m f e ≡ 6) → 0 < operand_count m f e
      go (inl k) = omega (arith, access_takes k)
      go (inr k) = omega (arith, access_index_takes k)
