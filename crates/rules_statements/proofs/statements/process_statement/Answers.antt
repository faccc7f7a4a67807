use Rattle.std.proofs.Common.{sym, ap, ◌∙◌, arith}
use Rattle.definitions.specs.Codes.{BARRIER}
use Rattle.definitions.specs.Checks.{fine}
use Rattle.rules_statements.specs.Said.{return_outcome}
use Rattle.rules_statements.proofs.ByKind.{own_kill, own_barrier, own_return, own_quiet}
use Rattle.rules_statements.proofs.CallPart.{lower}
use Rattle.rules_statements.proofs.OwnPart.{stand_still, settled_still, own_calls, own_told}
use Rattle.rules_statements.proofs.statements.process_statement.Goals as goal

pub call-requires : goal.call-requires
call-requires c = (
  c.requires.0.held,
  c.requires.1,
  c.in-6.is,
  stand_still c.requires.0 c.requires.1 c.add_refs.ensures,
  settled_still c.requires.0 c.requires.1 c.add_refs.ensures (lower c.requires.0.held c.requires.1 c.in-6.is),
)

pub returns-in-2 : goal.returns-in-2
returns-in-2 c = own_told c.requires.0 c.requires.1 c.add_refs.ensures _ _ (λ q. omega arith)
    (λ k done. ap fine c.kill-outcome.ensures ∙ sym (own_kill c.requires.1.is done _ _ c.in-2.is))

pub returns-in-3 : goal.returns-in-3
unfolding BARRIER
returns-in-3 c = own_told c.requires.0 c.requires.1 c.add_refs.ensures _ _ (λ q. omega arith)
    (λ k done. ap fine c.requiring-outcome.ensures ∙ sym (own_barrier c.requires.1.is done _ _ c.in-3.is))

pub returns-in-4 : goal.returns-in-4
returns-in-4 c = own_told c.requires.0 c.requires.1 c.add_refs.ensures _ _ (λ q. omega arith)
    (λ k done. ap fine (c.returns-outcome.ensures ∙ ap (return_outcome _) (c.origin.ensures k)) ∙ sym (own_return c.requires.1.is done _ _ c.in-4.is))

pub returns-in-6 : goal.returns-in-6
returns-in-6 c = own_calls c.requires.0 c.requires.1 c.add_refs.ensures _ _ c.in-6.is c.call.ensures

pub returns-in_default : goal.returns-in_default
returns-in_default c = own_told c.requires.0 c.requires.1 c.add_refs.ensures _ _ (λ q. omega arith)
    (λ k done. ap fine c.new-outcome.ensures ∙ sym (own_quiet c.requires.1.is done _ _ c.requires.2 (λ q. omega arith) (λ q. omega arith) (λ q. omega arith) (λ q. omega arith)))
