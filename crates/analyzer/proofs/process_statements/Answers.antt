use native.Mathlib.Omega.{arith}
use Rattle.std.proofs.lemmas.Result.{err_from_is_err_and}
use Rattle.memory.specs.Layout.{size}
use Rattle.analyzer.proofs.FunctionSteps.{initialising, walk_ready, walk_extent, rest_refused, rest_named}
use Rattle.analyzer.proofs.process_statements.Goals as goal

pub process_initialisers-requires : goal.process_initialisers-requires
process_initialisers-requires c = initialising c.requires

pub process_block-requires : goal.process_block-requires
process_block-requires c = (walk_ready c.requires c.process_initialisers.ensures, walk_extent c.requires c.process_initialisers.ensures, omega arith)

pub returns-in_err-p : goal.returns-in_err-p
unfolding size
returns-in_err-p c = let p = err_from_is_err_and c.from_residual.result c.from_residual.ensures.1 in rw (p.1, p.2) (rest_refused c.requires c.process_initialisers.ensures c.process_block.ensures c.process_block.array_long c.in_err-p.was)

pub returns : goal.returns
returns c = rest_named c.requires c.process_initialisers.ensures c.process_block.ensures c.in_ok-p.was c.process_named.ensures
