-- `QuickTables::new`: the tables, entry by entry.
use Rattle.module.proofs.Places.{header_room}
use Rattle.std.proofs.Common.{arith, refl}
use Rattle.form_expressions.specs.QuickTables as tables
use Rattle.form_expressions.proofs.fast.QuickTables.new.Goals as goal

pub globals-requires : goal.globals-requires
globals-requires c = omega (arith, header_room _ _ c.requires)

pub returns : goal.returns
unfolding tables.number_below tables.few_operands tables.first_below tables.guards
returns c = record {
  number_below_is = rw (c.globals.ensures);
  few_operands_is = refl;
  first_below_is = rw (c.saturating_sub.ensures, c.from-operands.ensures);
  guards_are = refl;
}
