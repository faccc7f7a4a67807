-- What the form checks (01, 2.6 and 2.7) give of accesses, samplings and Calls: the facts that the contracts of this
-- crate ask.
use Prim.Native.Nat.{ℕ, ◌<◌}
use native.Mathlib.Omega.{arith}
use mathlib.Core.Path.{◌≡◌}
use mathlib.Core.List.{List}
use Rattle.definitions.specs.Limits.{Limits}
use Rattle.definitions.specs.Module.{kind, expressions, operands, first_operand}
use Rattle.definitions.proofs.Formed.{ExpressionFormed, SheetFormed}
use Rattle.definitions.proofs.Wanted.{sample_image, sample_sampler, sample_pooled, base_pooled, base_earlier}
use Rattle.module.specs.Sheets.{ValidSheet}
use Rattle.module.specs.declared.Sheet.{Sheet}
use Rattle.module.proofs.Places.{bounds}
use Rattle.rules_pairs.specs.Tracing.{ValidBases, ValidSampling}

-- a function that has passed the checks
module _ (L : Limits) (m : List ℕ) (s : Sheet) (stands : ValidSheet m s) (formed : SheetFormed L m s.function) where
  expressions_are : s.expressions ≡ expressions m s.function
  expressions_are = (bounds m s stands).laid.expressions_are

  operands_are : s.operands ≡ operands m s.function
  operands_are = (bounds m s stands).laid.operands_are

  expression_formed : (e : ℕ) → e < s.expressions → ExpressionFormed m s.function e
  expression_formed e lt = let q = expressions_are in formed.each_expression e (omega arith)

  pub has_bases : ValidBases m s
  has_bases = record {
    pooled_in = λ e lt a b. (let q = operands_are in let p = base_pooled m s.function e (expression_formed e lt) a b in omega arith);
    is_known = λ e lt a b. (let p = base_earlier m s.function e (expression_formed e lt) a b in omega arith);
  }

  -- 4.5 a sampling expression
  pub is_sampling : (e first : ℕ) → e < s.expressions → kind m s.function e ≡ 13 → first ≡ first_operand m s.function e → ValidSampling m s e first
  is_sampling e first lt k q =
      let h = expression_formed e lt in
      let o = operands_are in
      let p = sample_pooled m s.function e h k in
      let i = sample_image m s.function e h k in
      let t = sample_sampler m s.function e h k in
      record { stands = stands; bases = has_bases; begins = q; pooled_in = omega arith; image_known = omega arith; sampler_known = omega arith }
