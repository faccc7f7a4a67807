-- The order of pairs, by image and then by sampler, is the definitions' order.
use Rattle.std.proofs.Common.{◌≡◌, ℕ, ◌&&◌, ◌||◌, not, ltb, eqb, Some, Ordering, Less, Equal, Greater, refl, arith}
use Rattle.std.specs.Ordering.{partial_le, is_gt, is_eq, is_le, is_some_and, nat_cmp, partial_ordering_then}
use Rattle.std.proofs.lemmas.Bool.Decides.{nat_tests}
use Rattle.definitions.specs.Ends.{end_before, same_end, before}
use Rattle.rules_pairs.specs.Said.{end_said, pair_said}
use Rattle.rules_pairs.specs.declared.ends.Pair.{Pair}
use Rattle.rules_pairs.specs.declared.ends.GlobalOrArgument.{GlobalOrArgument}
use Rattle.rules_pairs.specs.declared.ends.GlobalOrArgument.TheVariants.{Global, Argument}
use Rattle.rules_pairs.specs.contracts.ends.GlobalOrArgumentPartialOrd.TheImpl as ends
use Rattle.rules_pairs.specs.contracts.ends.PairPartialOrd.TheImpl as pairs

-- how x stands to y, as the code compares them and as the definitions do
record Ranked (x y : GlobalOrArgument) : Type 0 where
  rank : Ordering
  compared : ends.partial_cmp-value.it x y ≡ Some rank
  above : end_before (end_said y) (end_said x) ≡ is_gt rank
  same : same_end (end_said y) (end_said x) ≡ is_eq rank

above_by_number : (x y : ℕ) → ltb y x ≡ is_gt (nat_cmp x y)
above_by_number x y = grind (arith, nat_tests)

same_by_number : (x y : ℕ) → eqb y x ≡ is_eq (nat_cmp x y)
same_by_number x y = grind (arith, nat_tests)

ranked : (x y : GlobalOrArgument) → Ranked x y
unfolding end_before same_end
ranked (Global x) (Global y) =
    record { rank = nat_cmp x.0 y.0; compared = refl; above = above_by_number _ _; same = same_by_number _ _ }
ranked (Global x) (Argument y) = record { rank = Less; compared = refl; above = refl; same = refl }
ranked (Argument x) (Global y) = record { rank = Greater; compared = refl; above = refl; same = refl }
ranked (Argument x) (Argument y) =
    record { rank = nat_cmp x.0 y.0; compared = refl; above = above_by_number _ _; same = same_by_number _ _ }

by_two : (a b : Ordering)
    → is_some_and is_le (partial_ordering_then (Some a) (Some b)) ≡ not (is_gt a || (is_eq a && is_gt b))
by_two Less b = refl
by_two Equal Less = refl
by_two Equal Equal = refl
by_two Equal Greater = refl
by_two Greater b = refl

pub not_before : (x y : Pair) → partial_le pairs.partial_cmp-value.it y x ≡ not (before (pair_said x) (pair_said y))
unfolding before pair_said
not_before x y =
    let i = ranked y.image x.image in
    let s = ranked y.sampler x.sampler in
    rw (i.compared, s.compared, i.above, i.same, s.above) (by_two i.rank s.rank)
