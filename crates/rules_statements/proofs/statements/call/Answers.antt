use Rattle.std.proofs.Common.{arith}
use Rattle.std.proofs.lemmas.Result.{err_from_is_err_and}
use Rattle.rules_statements.proofs.CallPart.{callee_at, section_there, calling, uses_within, uses_room, callee, stand_joined, call_refuses, call_done}
use Rattle.rules_statements.proofs.statements.call.Goals as goal

pub section-at-requires : goal.section-at-requires
section-at-requires c = rw c.from.ensures (section_there c.requires.0 c.requires.1 c.requires.2)

pub uses_at-requires : goal.uses_at-requires
uses_at-requires c =
    let u = uses_within c.requires.0 c.requires.1 c.requires.2 (callee_at c.requires.4 c.from.ensures c.section-at.ensures c.from-globals.ensures c.globals.ensures) in
    omega arith

pub join_uses-requires : goal.join_uses-requires
join_uses-requires c =
    let k = (callee_at c.requires.4 c.from.ensures c.section-at.ensures c.from-globals.ensures c.globals.ensures) in
    (uses_room c.requires.0 c.requires.1 c.requires.2 k, rw c.uses_at.ensures (uses_within c.requires.0 c.requires.1 c.requires.2 k))

pub process_call-requires : goal.process_call-requires
process_call-requires c =
    let k = (callee_at c.requires.4 c.from.ensures c.section-at.ensures c.from-globals.ensures c.globals.ensures) in (
      calling c.requires.0 c.requires.1 c.requires.2,
      callee c.requires.0 c.requires.1 c.requires.2 k,
      stand_joined c.requires.0 c.requires.1 c.requires.2 k c.requires.3 c.uses_at.ensures c.join_uses.ensures.is c.join_uses.ensures.long,
    )

pub returns-in_err-lists : goal.returns-in_err-lists
returns-in_err-lists c =
    let p = err_from_is_err_and c.from_residual.result c.from_residual.ensures.1 in
    rw (p.1, p.2) (call_refuses c.requires.0 c.requires.1 c.requires.2 (callee_at c.requires.4 c.from.ensures c.section-at.ensures c.from-globals.ensures c.globals.ensures)
    c.requires.3 c.uses_at.ensures c.join_uses.ensures.is c.join_uses.ensures.long c.in_err-lists.ensures)

pub summary_at-requires : goal.summary_at-requires
summary_at-requires c =
    let u = uses_within c.requires.0 c.requires.1 c.requires.2 (callee_at c.requires.4 c.from.ensures c.section-at.ensures c.from-globals.ensures c.globals.ensures) in
    omega arith

pub returns : goal.returns
returns c = call_done c.requires.0 c.requires.1 c.requires.2 (callee_at c.requires.4 c.from.ensures c.section-at.ensures c.from-globals.ensures c.globals.ensures)
    c.requires.3 c.uses_at.ensures c.join_uses.ensures.is c.join_uses.ensures.long c.in_ok-lists.ensures c.summary_at.ensures c.from-outcome.ensures
