use Rattle.analyzer.proofs.FunctionLoop.{header_there}
use native.Mathlib.Omega.{arith}
use Rattle.std.proofs.lemmas.Result.{err_from_is_err_and}
use Rattle.memory.specs.Layout.{size}
use Rattle.analyzer.proofs.RunEnd.{module_refused, written_to, module_done}
use Rattle.analyzer.proofs.process_module.Goals as goal

pub overflow_cast-length : goal.overflow_cast-length
overflow_cast-length c = omega (arith, (written_to c.process_functions.ensures c.in_ok-length.was).short)

pub globals-requires : goal.globals-requires
globals-requires c = header_there c.requires

pub functions-requires : goal.functions-requires
functions-requires c = header_there c.requires

pub put_header-requires : goal.put_header-requires
put_header-requires c = let h = written_to c.process_functions.ensures c.in_ok-length.was in (omega (arith, h.next), omega (arith, c.process_functions.ensures.report_long, c.requires.report_room))

pub returns-in_err-length : goal.returns-in_err-length
unfolding size
returns-in_err-length c = let p = err_from_is_err_and c.from_residual.result c.from_residual.ensures.1 in rw (p.1, p.2) (module_refused c.requires c.told-work c.process_functions.ensures c.in_err-length.was)

pub returns : goal.returns
unfolding size
returns c = module_done c.requires c.told-work c.process_functions.ensures c.in_ok-length.was c.globals.ensures c.functions.ensures c.put_header.ensures
