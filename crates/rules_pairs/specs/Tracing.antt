-- What tracing asks of a function's sheet, as the form checks give it.
use Rattle.std.specs.Prelude.{ℕ, ◌+◌, ◌*◌, ◌≤◌, ◌<◌, ◌≡◌, List, cond, eqb, length}
use Rattle.definitions.specs.Module.{kind, number, first_operand, operand, pooled, s_first, s_count, s_operand}
use Rattle.definitions.specs.Ends.{End, glob, arg, Pair, Traced, reaches, neither}
use Rattle.definitions.specs.Report.{r_mixed, r_mixed_count, r_mixed_at, r_entries_at}
use Rattle.module.specs.Sheets.{ValidSheet}
use Rattle.module.specs.declared.Sheet.{Sheet}

-- 2.6 the base of every access is in the pool, and is an expression of the function
pub record ValidBases (m : List ℕ) (s : Sheet) : Type 0 where
  pub pooled_in : (e : ℕ) → e < s.expressions → 5 ≤ kind m s.function e → kind m s.function e ≤ 6 → first_operand m s.function e < s.operands
  pub is_known : (e : ℕ) → e < s.expressions → 5 ≤ kind m s.function e → kind m s.function e ≤ 6 → operand m s.function e 0 < s.expressions

-- an expression to trace
pub record ValidTrace (m : List ℕ) (s : Sheet) (e : ℕ) : Type 0 where
  pub stands : ValidSheet m s
  pub bases : ValidBases m s
  pub is_known : e < s.expressions

-- a base to trace, which stands at a place of the pool
pub record ValidBase (m : List ℕ) (s : Sheet) (p : ℕ) : Type 0 where
  pub stands : ValidSheet m s
  pub pooled_in : p < s.operands
  pub is_known : pooled m s.function p < s.expressions

-- 4.3 a base that is itself a kind 2 is that global
unfoldable pub based : List ℕ → ℕ → ℕ → Traced
based m f p = cond (eqb (kind m f (pooled m f p)) 2) (reaches (glob (number m f (pooled m f p)))) neither

-- an operand to trace, which stands at a place of the pool
pub record ValidOperand (m : List ℕ) (s : Sheet) (p : ℕ) : Type 0 where
  pub stands : ValidSheet m s
  pub bases : ValidBases m s
  pub pooled_in : p < s.operands
  pub is_known : pooled m s.function p < s.expressions

-- 4.5 a sampling expression: its operands stand in the pool from `first` on, and its image and sampler are
-- expressions of the function
pub record ValidSampling (m : List ℕ) (s : Sheet) (e first : ℕ) : Type 0 where
  pub stands : ValidSheet m s
  pub bases : ValidBases m s
  pub begins : first ≡ first_operand m s.function e
  pub pooled_in : first + 1 < s.operands
  pub image_known : operand m s.function e 0 < s.expressions
  pub sampler_known : operand m s.function e 1 < s.expressions

-- 4.6 a Call: its operands stand in the pool from `first` on, and are expressions of the function
pub record ValidCall (m : List ℕ) (s : Sheet) (t first : ℕ) : Type 0 where
  pub stands : ValidSheet m s
  pub bases : ValidBases m s
  pub begins : first ≡ s_first m s.function t
  pub pooled_in : first + s_count m s.function t ≤ s.operands
  pub is_known : (j : ℕ) → j < s_count m s.function t → s_operand m s.function t j < s.expressions

-- an end of the callee: an argument has an operand of the Call
abbrev pub EndBelow : ℕ → End → Type 0
EndBelow n (glob g) = Unit {0}
EndBelow n (arg a) = a < n

pub record PairBelow (m : List ℕ) (s : Sheet) (t : ℕ) (p : Pair) : Type 0 where
  pub image : EndBelow (s_count m s.function t) p.image
  pub sampler : EndBelow (s_count m s.function t) p.sampler

pub record ValidEnd (m : List ℕ) (s : Sheet) (t first : ℕ) (x : End) : Type 0 where
  pub calling : ValidCall m s t first
  pub below : EndBelow (s_count m s.function t) x

-- the callee's lists in the report b: n pairs from `at` on, n mixed pairs from `at` on, and its whole section
pub record ValidCalleePairs (b : List ℕ) (at n : ℕ) : Type 0 where
  pub fits : at + 4 * n ≤ length b
  pub few : n < 65536

pub record ValidCalleeMixed (m : List ℕ) (s : Sheet) (t : ℕ) (b : List ℕ) (at n : ℕ) : Type 0 where
  pub fits : at + 6 * n ≤ length b
  pub below : (i : ℕ) → i < n → PairBelow m s t (r_mixed b (at + 6 * i))

pub record ValidCallee (m : List ℕ) (s : Sheet) (t g : ℕ) (b : List ℕ) (at : ℕ) : Type 0 where
  pub fits : r_entries_at g b at ≤ length b
  pub below : (i : ℕ) → i < r_mixed_count b at → PairBelow m s t (r_mixed b (r_mixed_at g b at + 6 * i))
