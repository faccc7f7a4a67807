-- The sampling is refused, or its line is written after it, with the lists that it left (OneExpression).
use mathlib.Core.List.{[]}
use Rattle.std.proofs.lemmas.Result.{err_from_is_err_and}
use Rattle.rules_expressions.proofs.OneExpression.{sample_refused, valid_after, sample_done, complete_done}
use Rattle.rules_expressions.proofs.sample_then_complete.Goals as goal

pub sample-requires : goal.sample-requires
sample-requires c = (c.requires.0.operands.expression, c.requires.0.lists)

pub returns-in_err-after : goal.returns-in_err-after
returns-in_err-after c = let p = err_from_is_err_and c.from_residual.result c.from_residual.ensures.1 in rw (p.1, p.2) (λ done. sample_refused _ _ _ _ _ c.requires.0 done _ _ c.sample.ensures _ c.in_err-after.was)

pub carried-g-requires : goal.carried-g-requires
carried-g-requires c = let v = valid_after _ _ _ _ _ c.requires.0 [] _ _ c.sample.ensures _ c.in_ok-after.was in (v.operands.expression, c.requires.1)

pub finish-requires : goal.finish-requires
finish-requires c = let v = valid_after _ _ _ _ _ c.requires.0 [] _ _ c.sample.ensures _ c.in_ok-after.was in (v.operands, c.requires.1)

pub returns : goal.returns
returns c = let v = valid_after _ _ _ _ _ c.requires.0 [] _ _ c.sample.ensures _ c.in_ok-after.was in λ done. sample_done _ _ _ _ _ c.requires.0 done _ _ c.sample.ensures _ _ _ c.in_ok-after.was (complete_done _ _ _ _ _ v done _ _ c.carried-g.ensures (c.finish.ensures done))
