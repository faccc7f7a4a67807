-- `fast::QuickTables::accepts`: what each test says of the record, by the tables' rows.
use Rattle.form_expressions.proofs.QuickRows.{few_three, pool_read, accepted}
use Rattle.module.proofs.Places.{bounds}
use Prim.Native.Nat.{◌+◌, ◌*◌}
use mathlib.Core.Path.{sym, ap, ◌∙◌}
use native.Mathlib.Omega.{arith}
use Rattle.form_expressions.proofs.fast.QuickTables.accepts.Goals as goal

pub bounds-self-from : goal.bounds-self-from
bounds-self-from c = omega (arith, few_three _ _ _ c.requires.3 _ _ _ c.from-k.ensures c.if-x-gt-LAST.false c.from.ensures)

pub entry-requires : goal.entry-requires
entry-requires c = (c.requires.0, omega (arith, (pool_read _ _ _ c.requires.3 _ _ c.if-p-row.true).1, c.requires.2, (bounds _ _ c.requires.0).laid.table_at))

pub entry-requires-then-p-row : goal.entry-requires-then-p-row
entry-requires-then-p-row c = (c.requires.0, omega (arith, (pool_read _ _ _ c.requires.3 _ _ c.if-p-row.true).1, c.requires.2, (bounds _ _ c.requires.0).laid.table_at))

pub guarded_earlier-requires : goal.guarded_earlier-requires
guarded_earlier-requires c = omega (arith, c.requires.1, (bounds _ _ c.requires.0).few_expressions)

pub returns-then-p-row : goal.returns-then-p-row
returns-then-p-row c = λ t. accepted _ _ _ c.requires.3 _ c.expression_at-x.result _ _ _ _ _ _ c.requires.0 c.expression_at-x.ensures (omega arith) (omega arith) (omega arith) c.if-x-gt-LAST.false c.from-k.ensures c.if-x-ne-NO_SUB.false c.if-self-k.false c.from.ensures c.joined-first_and_count.ensures (λ lt. c.first_if_count-p.ensures lt ∙ ap (λ n. 65536 * c.first_if_count-p.result + n) (sym c.from.ensures)) c.if-p-row.true c.entry.ensures c.entry-then-p-row.ensures (c.guarded_earlier.ensures t)
