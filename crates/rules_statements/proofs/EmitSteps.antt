-- An Emit counts nothing, marks nothing and has no exit: the walk goes on behind it with what it requires.
use Prim.Native.Nat.{ℕ, ◌<◌}
use native.Mathlib.Omega.{arith}
use mathlib.Core.Path.{◌≡◌, refl, sym, ap, ◌∙◌}
use mathlib.Core.List.{List}
use mathlib.Core.Bool.{true}
use lib.ListN.{length}
use borrow.Author.Tests.{eqb-true, not-false}
use Rattle.std.specs.Prelude.{Ok, Err, Option}
use Rattle.definitions.specs.Limits.{version_1}
use Rattle.definitions.specs.Module.{s_kind, s_count}
use Rattle.definitions.specs.Roles.{s_takes}
use Rattle.definitions.specs.Summary.{Section}
use Rattle.definitions.specs.Walk as walks
use Rattle.definitions.proofs.Fold.{bind_fine, fine_inj}
use Rattle.vocabulary.specs.Said.{disruptor_said}
use Rattle.vocabulary.specs.declared.disruptor.UniformityDisruptor.{UniformityDisruptor}
use Rattle.vocabulary.specs.declared.refusal.Refusal.{Refusal}
use Rattle.module.specs.Sheets.{IsStatement}
use Rattle.module.specs.declared.Sheet.{Sheet}
use Rattle.module.specs.declared.Statement.{Statement}
use Rattle.memory.specs.Layout.{size}
use Rattle.rules_pairs.specs.declared.lists.Lists.{Lists}
use Rattle.rules_statements.specs.Said.{outcome_said}
use Rattle.rules_pairs.specs.States.{callees}
use Rattle.rules_statements.specs.Results.{known_state, CountsBelow, bound, WalkContext, StatementAt, OperandsResult, WalkResult, told_said, emit_outcome}
use Rattle.rules_statements.specs.declared.uniformity.FunctionUniformity.{FunctionUniformity}
use Rattle.rules_statements.proofs.Records.{formed_at, ends_at_once, next_after}
use Rattle.rules_statements.proofs.OperandSteps.{refers_none, refers_all}
use Rattle.rules_statements.proofs.ByKind.{own_emit}
use Rattle.rules_statements.proofs.OwnPart.{own_told, own_refused}
use Rattle.rules_statements.proofs.WalkSteps.{WalkLoop, statement_here, own_refuses, bare, goes_on}

or_then_none : (d : walks.Disruptor) → d ≡ walks.or_then d walks.undisrupted
unfolding walks.or_then
or_then_none walks.undisrupted = refl
or_then_none (walks.by_expression e) = refl
or_then_none walks.by_return = refl
or_then_none walks.by_discard = refl

-- 2.7 an Emit takes no operands
takes_none : (k n : ℕ) → k ≡ 0 → s_takes k n ≡ true → n ≡ 0
unfolding s_takes
takes_none k n e h = eqb-true n 0 (rw e at h)

module _ {m : List ℕ} {s : Sheet} (held : WalkContext m s) {t : ℕ} {x : Statement} (at : StatementAt m s t x) (emit : x.kind ≡ 0) where
  no_operands : x.count ≡ 0
  no_operands =
      let f = formed_at held at in
      at.is.count_is ∙ takes_none (s_kind m s.function t) (s_count m s.function t) (sym at.is.kind_is ∙ emit)
      (not-false (s_takes (s_kind m s.function t) (s_count m s.function t)) f.count_fits)

  refers_bare : {w : List ℕ} → length w ≡ size → CountsBelow m s.function w (bound t) → OperandsResult m s t w w
  refers_bare l low = let z = no_operands in refers_all (refers_none held l at low) (omega arith)

-- an Emit has no exit
emit_exit : (u : ℕ) → walks.undisrupted ≡ walks.exit (walks.requiring u)
unfolding walks.exit walks.requiring
emit_exit u = refl

module _ {m : List ℕ} {s : Sheet} {report w₀ : List ℕ} {lo hi : ℕ} {start : Option UniformityDisruptor} {l₀ : Lists} {w : List ℕ} {at : ℕ} {d : Option UniformityDisruptor} {l : Lists} {out : FunctionUniformity}
    (v : WalkLoop m s report w₀ lo hi start l₀ w at d l out) (lt : at < hi) {x : Statement} (is : IsStatement m s.function at x) (emit : x.kind ≡ 0) where
  here_is : StatementAt m s at x
  here_is = statement_here v lt is

  refers_so : OperandsResult m s at w w
  refers_so = refers_bare v.ready.held here_is emit v.ready.stand.long v.ready.low

  no_call : x.kind ≡ 6 → ⊥
  no_call q = omega arith

  own_emits : (k : Lists) (done : List Section) → emit_outcome m s.function at (disruptor_said d) (known_state m s.function k w)
      ≡ walks.own_outcome m done s.function at (disruptor_said d) (known_state m s.function k w)
  own_emits k done = sym (own_emit is done _ _ emit)

  pub emit_refuses : (r : Refusal) → ((k : Lists) → told_said (Err r) ≡ emit_outcome m s.function at (disruptor_said d) (known_state m s.function k w))
      → WalkResult m s report w₀ w hi (Err r) (walks.walk version_1 m (callees m s.function report w₀) s.function lo hi (disruptor_said start) (known_state m s.function l₀ w₀))
  emit_refuses r tells = own_refuses v lt (own_refused v.ready here_is refers_so (disruptor_said d) r no_call (λ k done. tells k ∙ own_emits k done))

  pub emits_on : (o : FunctionUniformity) {out' : FunctionUniformity} → ((k : Lists) → told_said (Ok o) ≡ emit_outcome m s.function at (disruptor_said d) (known_state m s.function k w))
      → outcome_said out' ≡ walks.joined (outcome_said out) (outcome_said o)
      → WalkLoop m s report w₀ lo hi start l₀ w x.end d l out'
  unfolding emit_outcome
  emits_on o tells j =
      let b = bind_fine _ _ (sym (tells l)) in
      let q : walks.undisrupted ≡ walks.exit (outcome_said o) = emit_exit b.0 ∙ ap walks.exit (fine_inj b.2) in
      goes_on v lt is
      (bare v lt is (ends_at_once v.ready.held here_is (omega arith))
      (own_told v.ready here_is refers_so (disruptor_said d) o no_call (λ k done. tells k ∙ own_emits k done)))
      (next_after m s.function at x (disruptor_said start) (disruptor_said d) (disruptor_said d) (outcome_said o) is (λ (k : x.kind ≡ 11). omega arith)
      (or_then_none (disruptor_said d) ∙ ap (walks.or_then (disruptor_said d)) q)) j
