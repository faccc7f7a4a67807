-- `exact::operands`: the two tests, of an operand at its position, are what 01, 2.6 says of the position.
use Rattle.form_expressions.specs.Operands.{misplaced_at, late_at}
use Rattle.std.proofs.Common.{rules}
use lib.Dec.{leb, eqb}
use mathlib.Core.Bool.{◌&&◌, not}
use mathlib.Core.Path.{◌≡◌, ap, ◌∙◌}
use Rattle.definitions.specs.Module as file
use Rattle.definitions.specs.Roles as roles
use Rattle.form_expressions.proofs.exact.operands.Goals as goal

pub returns : goal.returns
unfolding misplaced_at late_at
returns c =
    c.operands.ensures (misplaced_at c.args.m.now c.args.s.function c.args.x) (late_at c.args.m.now c.args.s.function c.args.x)
    (λ j o b lt is post. (
    let told : b ≡ roles.misplaced (roles.role c.args.x.kind c.args.x.sub j) o.0 = search rules in
    told ∙ ap (roles.misplaced _) is))
    (λ j o b lt is post. (
    let told : b ≡ (leb c.args.x.index.0 o.0 && not (eqb o.0 file.absent)) = search rules in
    told ∙ ap (λ n. leb c.args.x.index.0 n && not (eqb n file.absent)) is))
