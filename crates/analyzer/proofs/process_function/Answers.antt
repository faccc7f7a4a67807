use Rattle.std.proofs.lemmas.Result.{err_from_is_err_and}
use Rattle.memory.specs.Layout.{size}
use Rattle.analyzer.proofs.FunctionSteps.{expressions_asked, run_refused, run_known, run_rest}
use Rattle.analyzer.proofs.process_function.Goals as goal

pub process_expressions-requires : goal.process_expressions-requires
process_expressions-requires c = expressions_asked c.requires

pub process_statements-requires : goal.process_statements-requires
process_statements-requires c = run_known c.requires c.process_expressions.ensures c.in_ok-l.was

pub returns-in_err-l : goal.returns-in_err-l
unfolding size
returns-in_err-l c = let p = err_from_is_err_and c.from_residual.result c.from_residual.ensures.1 in rw (p.1, p.2) (run_refused c.requires c.process_expressions.ensures c.process_expressions.array_long c.in_err-l.was)

pub returns : goal.returns
returns c = run_rest c.requires c.process_expressions.ensures c.in_ok-l.was c.process_statements.ensures
