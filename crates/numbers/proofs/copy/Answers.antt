-- A byte a turn (Stretches).
use Rattle.std.proofs.Common.{◌+◌, get_or, set, ap, ◌∙◌, arith}
use Rattle.numbers.proofs.Stretches.{copied_more}
use Rattle.numbers.proofs.copy.Goals as goal

pub loop-i-preserved : goal.loop-i-preserved
loop-i-preserved c =
    let i = c.loop-i.i in
    ap (λ l. set l (c.args.b + i) (get_or c.args.from.now (c.args.a + i) 0)) c.loop-i.invariant
    ∙ copied_more c.args.from.now c.args.a c.args.to.now c.args.b i c.args.n (omega arith) (omega arith) (omega arith)
