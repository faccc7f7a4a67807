-- `exact::statement`: the groups that it has passed, and the one that refuses.
use mathlib.Core.Bool.{true, false}
use mathlib.Core.Path.{◌≡◌, sym, ◌∙◌}
use Rattle.std.proofs.Common.{arith, rules}
use Rattle.definitions.specs.Checks.{first, ◌⇒◌}
use Rattle.form_records.specs.OperandChecks.{operands_misplaced, operands_fine}
use Rattle.form_statements.proofs.Grouping.{statement_groups, callee_lower}
use Rattle.form_statements.proofs.exact.statement.Goals as goal

pub returns-then-unknown_code : goal.returns-then-unknown_code
unfolding first ◌⇒◌
returns-then-unknown_code c =
    sym (statement_groups _ _ _ _ _ _ _ _ c.requires.context c.requires.read ∙ rw (← c.if-unknown_code.ensures))

pub returns-then-misshapen : goal.returns-then-misshapen
unfolding first ◌⇒◌
returns-then-misshapen c =
    sym (statement_groups _ _ _ _ _ _ _ _ c.requires.context c.requires.read ∙ rw (← c.if-unknown_code.ensures, ← c.if-misshapen.ensures))

pub operands-found-requires : goal.operands-found-requires
operands-found-requires c = c.requires.context.sheet_stands

pub returns-then-eq : goal.returns-then-eq
unfolding first ◌⇒◌
returns-then-eq c =
    let placed : operands_misplaced c.operands-found.result ≡ true = search rules in
    sym (statement_groups _ _ _ _ _ _ _ _ c.requires.context c.requires.read ∙ rw (← c.if-unknown_code.ensures, ← c.if-misshapen.ensures, ← c.operands-found.ensures, placed))

pub returns-then-badly_nested : goal.returns-then-badly_nested
unfolding first ◌⇒◌
returns-then-badly_nested c =
    let placed : operands_misplaced c.operands-found.result ≡ false = search rules in
    sym (statement_groups _ _ _ _ _ _ _ _ c.requires.context c.requires.read ∙ rw (← c.if-unknown_code.ensures, ← c.if-misshapen.ensures, ← c.operands-found.ensures, placed, ← c.if-badly_nested.ensures))

pub returns-then-is_err : goal.returns-then-is_err
unfolding first ◌⇒◌
returns-then-is_err c =
    let placed : operands_misplaced c.operands-found.result ≡ false = search rules in
    let all_fine : operands_fine c.operands-found.result ≡ false = search rules in
    sym (statement_groups _ _ _ _ _ _ _ _ c.requires.context c.requires.read ∙ rw (← c.if-unknown_code.ensures, ← c.if-misshapen.ensures, ← c.operands-found.ensures, placed, ← c.if-badly_nested.ensures, all_fine))

pub returns-then-unnamed : goal.returns-then-unnamed
unfolding first ◌⇒◌
returns-then-unnamed c =
    let placed : operands_misplaced c.operands-found.result ≡ false = search rules in
    let all_fine : operands_fine c.operands-found.result ≡ true = search rules in
    sym (statement_groups _ _ _ _ _ _ _ _ c.requires.context c.requires.read ∙ rw (← c.if-unknown_code.ensures, ← c.if-misshapen.ensures, ← c.operands-found.ensures, placed, ← c.if-badly_nested.ensures, all_fine, ← c.if-unnamed.ensures))

pub returns-then-over_depth : goal.returns-then-over_depth
unfolding first ◌⇒◌
returns-then-over_depth c =
    let placed : operands_misplaced c.operands-found.result ≡ false = search rules in
    let all_fine : operands_fine c.operands-found.result ≡ true = search rules in
    sym (statement_groups _ _ _ _ _ _ _ _ c.requires.context c.requires.read ∙ rw (← c.if-unknown_code.ensures, ← c.if-misshapen.ensures, ← c.operands-found.ensures, placed, ← c.if-badly_nested.ensures, all_fine, ← c.if-unnamed.ensures, ← c.if-over_depth.ensures))

pub miscalled-requires : goal.miscalled-requires
miscalled-requires c = λ k. (let lower = callee_lower _ _ _ (sym c.if-unnamed.ensures) k in omega (arith, c.requires.context.counts_kept.few))

pub returns-then-miscalled : goal.returns-then-miscalled
unfolding first ◌⇒◌
returns-then-miscalled c =
    let placed : operands_misplaced c.operands-found.result ≡ false = search rules in
    let all_fine : operands_fine c.operands-found.result ≡ true = search rules in
    sym (statement_groups _ _ _ _ _ _ _ _ c.requires.context c.requires.read ∙ rw (← c.if-unknown_code.ensures, ← c.if-misshapen.ensures, ← c.operands-found.ensures, placed, ← c.if-badly_nested.ensures, all_fine, ← c.if-unnamed.ensures, ← c.if-over_depth.ensures, ← c.if-miscalled.ensures))

pub returns : goal.returns
unfolding first ◌⇒◌
returns c =
    let placed : operands_misplaced c.operands-found.result ≡ false = search rules in
    let all_fine : operands_fine c.operands-found.result ≡ true = search rules in
    sym (statement_groups _ _ _ _ _ _ _ _ c.requires.context c.requires.read ∙ rw (← c.if-unknown_code.ensures, ← c.if-misshapen.ensures, ← c.operands-found.ensures, placed, ← c.if-badly_nested.ensures, all_fine, ← c.if-unnamed.ensures, ← c.if-over_depth.ensures, ← c.if-miscalled.ensures))
