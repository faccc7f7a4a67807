-- `fast::quick_accepts_part`: where every operand passes, each is an expression.
use Rattle.definitions.specs.Module as file
use Rattle.form_statements.proofs.QuickStatements.{pool_none, pool_all}
use Rattle.std.proofs.Common.{◌≡◌, ℕ, ◌+◌, ◌≤◌, ◌<◌, get_or, rules, arith}
use Rattle.std.proofs.lemmas.Bool.{MatchBool-at_true}
use Rattle.std.proofs.lemmas.Iterator.{cases_from_all, YieldsList-from_range}
use Rattle.std.proofs.lemmas.List.FromFn.{length-range_with_len, get_or-range_with_len}
use Rattle.std.specs.List.{range_with_len}
use mathlib.Core.Path.{subst}
use borrow.Author.Tests.{tests}
use Rattle.form_statements.proofs.fast.quick_accepts_part.Goals as goal

pub returns-then-count-eq0 : goal.returns-then-count-eq0
returns-then-count-eq0 c = λ e. pool_none _ _ _ _ _ _ c.if-count-eq0.true e

pub returns : goal.returns
returns c =
    λ e.
    let n = c.args.count in
    let operand = λ (j : ℕ). file.pooled c.args.m.now c.args.s.function (c.args.first + j) in
    let all = MatchBool-at_true _ _ e
    (cases_from_all _ _ _ (λ j. operand j < c.args.s.expressions) (λ j. c.args.s.expressions ≤ operand j) c.all.ensures.ran (YieldsList-from_range 0 n n (cc) (omega arith))
    (λ x q k. search (rules, tests)) (λ x q k. search (rules, tests))) in
    pool_all _ _ _ _ _ _ c.if-count-eq0.false (omega arith)
    (λ j lt.
    let at : get_or (range_with_len 0 n) j 0 ≡ j = omega (arith, get_or-range_with_len 0 n j 0 lt) in
    subst (λ (k : ℕ). operand k < c.args.s.expressions) at (all j 0 (omega arith) (omega (arith, length-range_with_len 0 n))))
