-- The pairs, and then the mixed pairs: two steps over the lists, one after the other (CalleeLists).
use mathlib.Core.Path.{◌∙◌}
use native.Mathlib.Omega.{arith}
use Rattle.std.proofs.lemmas.Result.{err_from_is_err_and}
use Rattle.rules_pairs.proofs.CalleeLists.{header_there, pairs_there, callee_pairs, callee_mixed, call_stop, call_go, stands_then}
use Rattle.rules_pairs.proofs.calls.process_call.Goals as goal

pub take_pairs-requires : goal.take_pairs-requires
take_pairs-requires c = (callee_pairs _ _ _ _ _ _ c.requires.1 _ _ (c.from.ensures ∙ c.pair_count.ensures) (c.pairs_at.ensures _) (omega (arith, c.from.ensures, c.pair_count.type_inv)), c.requires.2)

pub returns-in_err-after : goal.returns-in_err-after
returns-in_err-after c = let p = err_from_is_err_and c.from_residual.result c.from_residual.ensures.1 in rw (p.1, p.2) (call_stop _ _ _ _ _ _ c.requires.1 _ _ (c.from.ensures ∙ c.pair_count.ensures) (c.pairs_at.ensures _) _ _ _ _ _ c.take_pairs.ensures c.in_err-after.was)

pub take_mixed-requires : goal.take_mixed-requires
take_mixed-requires c = (c.requires.0, callee_mixed _ _ _ _ _ _ c.requires.1 _ _ (c.from.ensures ∙ c.pair_count.ensures) (c.pairs_at.ensures _) _ _ (c.from-2.ensures ∙ c.mixed_count.ensures) c.mixed_at.ensures, stands_then _ _ _ _ _ c.take_pairs.ensures c.in_ok-after.was)

pub returns : goal.returns
returns c = call_go _ _ _ _ _ _ c.requires.1 _ _ (c.from.ensures ∙ c.pair_count.ensures) (c.pairs_at.ensures _) _ _ (c.from-2.ensures ∙ c.mixed_count.ensures) c.mixed_at.ensures _ _ _ _ _ _ _ c.take_pairs.ensures c.in_ok-after.was c.take_mixed.ensures

pub pair_count-requires : goal.pair_count-requires
pair_count-requires c = omega (arith, header_there _ _ _ _ _ _ c.requires.1)

pub pairs_at-requires : goal.pairs_at-requires
pairs_at-requires c = omega (arith, header_there _ _ _ _ _ _ c.requires.1)

pub mixed_count-requires : goal.mixed_count-requires
mixed_count-requires c = omega (arith, header_there _ _ _ _ _ _ c.requires.1)

pub mixed_at-requires : goal.mixed_at-requires
mixed_at-requires c = (omega (arith, header_there _ _ _ _ _ _ c.requires.1), omega (arith, pairs_there _ _ _ _ _ _ c.requires.1))
