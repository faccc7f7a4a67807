-- `any` over the numbers below a count, in std's terms and in the definitions'. The code counts to m and the
-- definitions to n, which are equal.
use Rattle.std.proofs.Common.{◌≡◌, ℕ, zero, suc, ◌+◌, Bool, true, false, ◌||◌, refl, ap, ◌∙◌, arith}
use Rattle.std.specs.List.{list_any, range_with_len}
use Rattle.std.specs.declared.ops.Range.{Range}
use Rattle.std.proofs.iter.Yields.{nat_range_steps}
use Rattle.std.proofs.lemmas.Iterator.{YieldsList, YieldsList-from_range}
use Rattle.definitions.specs.Bytes.{range}
use Rattle.definitions.specs.Checks.{any}

one_more : (t u v : Bool) → u ≡ v → (t || u) ≡ elim t [ true ↦ true | false ↦ v ]
one_more true u v e = refl
one_more false u v e = e

any_in_range : (wrong : ℕ → Bool) (i n : ℕ) → list_any wrong (range_with_len i n) ≡ any wrong (range i n)
unfolding any range
any_in_range wrong i zero = refl
any_in_range wrong i (suc n) =
    let e : i + 1 ≡ suc i = omega arith in
    one_more (wrong i) _ _ (any_in_range wrong (i + 1) n ∙ ap (λ k. any wrong (range k n)) e)

pub some_wrong : (wrong : ℕ → Bool) (m : ℕ) {n : ℕ} {r : Bool}
    → r ≡ list_any wrong (range_with_len 0 m) → m ≡ n → r ≡ any wrong (range 0 n)
some_wrong wrong m h e = h ∙ (any_in_range wrong 0 m ∙ ap (λ k. any wrong (range 0 k)) e)

-- the code's numbers, as the lemma on `any` takes them
pub below : {s : Range ℕ} {n : ℕ} → s ≡ record { start = 0; end = n } → YieldsList nat_range_steps (λ x. x) s (range_with_len 0 n)
below e = YieldsList-from_range 0 _ _ e (omega arith)
