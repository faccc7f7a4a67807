use Rattle.std.proofs.lemmas.Result.{err_from_is_err_and}
use Rattle.analyzer.proofs.OneFunction.{begins, came, not_came}
use Rattle.analyzer.proofs.process_next.Goals as goal

pub process_function-requires : goal.process_function-requires
process_function-requires c = begins c.requires

pub put-requires : goal.put-requires
put-requires c = came c.requires c.process_function.ensures c.in_ok-p.was

pub returns-in_err-p : goal.returns-in_err-p
returns-in_err-p c = let p = err_from_is_err_and c.from_residual.result c.from_residual.ensures.1 in rw (p.1, p.2) (not_came c.requires c.process_function.ensures c.in_err-p.was)
