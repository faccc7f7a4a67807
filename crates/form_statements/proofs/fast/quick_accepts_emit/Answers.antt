-- `fast::quick_accepts_emit`: what each test says of the range.
use Rattle.std.proofs.Common.{arith, sym, ◌∙◌}
use Rattle.form_statements.proofs.QuickStatements.{emit_uses}
use borrow.Author.Tests.{eqb-true}
use Rattle.form_statements.proofs.fast.quick_accepts_emit.Goals as goal

pub returns-then-end-s : goal.returns-then-end-s
returns-then-end-s c = λ e. emit_uses _ _ _ c.requires.0 c.requires.2 (omega arith) (omega arith) (sym c.s_count.ensures ∙ eqb-true _ 0 e)
