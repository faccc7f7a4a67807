-- The access checks refuse, or the rest goes on (OneExpression).
use Rattle.std.proofs.lemmas.Result.{err_from_is_err_and}
use Rattle.rules_expressions.proofs.OneExpression.{access_refused, access_done}
use Rattle.rules_expressions.proofs.composite.Goals as goal

pub check-requires : goal.check-requires
check-requires c = c.requires.0.operands.expression

pub sample_then_complete-requires : goal.sample_then_complete-requires
sample_then_complete-requires c = c.requires

pub returns-in_err-check : goal.returns-in_err-check
returns-in_err-check c = let p = err_from_is_err_and c.from_residual.result c.from_residual.ensures.1 in rw (p.1, p.2) (λ done. access_refused _ _ _ _ _ c.requires.0 done _ c.check.ensures _ c.in_err-check.was)

pub returns : goal.returns
returns c = λ done. access_done _ _ _ _ _ c.requires.0 done _ c.check.ensures _ _ c.in_ok-check.was (c.sample_then_complete.ensures done)
