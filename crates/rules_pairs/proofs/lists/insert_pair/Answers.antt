-- The list that the ends say takes the pair; the other list and the rest of the memory stay (InsertPair).
use Rattle.std.proofs.lemmas.Result.{err_from_is_err_and}
use Rattle.rules_pairs.specs.Said.{pair_said}
use Rattle.memory.specs.Layout.{pairs_at, mixed_at}
use mathlib.Core.Path.{sym, ◌∙◌}
use native.Mathlib.Omega.{arith}
use Rattle.rules_pairs.proofs.InsertPair.{pairs_roomy, mixed_roomy, pairs_entered, pairs_refused, is_full, mixed_entered, mixed_refused}
use Rattle.rules_pairs.proofs.lists.insert_pair.Goals as goal

pub insert-requires : goal.insert-requires
unfolding pairs_at mixed_at pair_said
insert-requires c = pairs_roomy _ _ c.requires

pub returns-in_err-pairs : goal.returns-in_err-pairs
unfolding pairs_at mixed_at pair_said
returns-in_err-pairs c = let f = is_full _ _ _ (sym c.ok_or.ensures.value ∙ c.in_err-pairs.was) in let p = err_from_is_err_and c.from_residual.result c.from_residual.ensures.1 in rw (p.1, p.2) (pairs_refused _ _ _ _ _ _ c.requires (sym c.of_globals.ensures ∙ c.if-of_globals.true) c.insert.ensures _ f.1 f.0)

pub insert-requires-else-of_globals : goal.insert-requires-else-of_globals
unfolding pairs_at mixed_at pair_said
insert-requires-else-of_globals c = mixed_roomy _ _ c.requires

pub returns-in_err-mixed : goal.returns-in_err-mixed
unfolding pairs_at mixed_at pair_said
returns-in_err-mixed c = let f = is_full _ _ _ (sym c.ok_or-else-of_globals.ensures.value ∙ c.in_err-mixed.was) in let p = err_from_is_err_and c.from_residual-in_err-mixed.result c.from_residual-in_err-mixed.ensures.1 in rw (p.1, p.2) (mixed_refused _ _ _ _ _ _ c.requires (sym c.of_globals.ensures ∙ c.if-of_globals.false) c.insert-else-of_globals.ensures _ f.1 f.0)

pub returns-in_ok-pairs : goal.returns-in_ok-pairs
unfolding pairs_at mixed_at pair_said
returns-in_ok-pairs c = pairs_entered _ _ _ _ _ _ c.requires (sym c.of_globals.ensures ∙ c.if-of_globals.true) c.insert.ensures _ (grind arith)

pub returns-in_ok-mixed : goal.returns-in_ok-mixed
unfolding pairs_at mixed_at pair_said
returns-in_ok-mixed c = mixed_entered _ _ _ _ _ _ c.requires (sym c.of_globals.ensures ∙ c.if-of_globals.false) c.insert-else-of_globals.ensures _ (grind arith)
