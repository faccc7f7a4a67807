-- `form_statements::all`: what the quick tests accept is valid, and the exact checks decide the rest.
use mathlib.Core.Path.{sym}
use Rattle.form_statements.proofs.all.Goals as goal

pub returns-then-quick_accepts : goal.returns-then-quick_accepts
returns-then-quick_accepts c = sym (c.quick_accepts.ensures c.if-quick_accepts.true)

pub returns : goal.returns
returns c = c.all.ensures
