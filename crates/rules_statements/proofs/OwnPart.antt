-- What a statement does by itself: its operands, then a Call's own part or what another statement gives.
use Prim.Native.Nat.{ℕ, ◌+◌, ◌<◌}
use native.Mathlib.Omega.{arith}
use mathlib.Core.Path.{◌≡◌, refl, sym, ap, ◌∙◌}
use mathlib.Core.List.{List, [], ◌∷◌}
use Rattle.std.specs.Prelude.{Result, Ok, Err}
use Rattle.definitions.specs.Limits.{version_1}
use Rattle.definitions.specs.Module.{s_count}
use Rattle.definitions.specs.Checks.{fine, refused, ◌>>=◌, through}
use Rattle.definitions.specs.State.{State, Operand, refer, refer_all, s_operands_of}
use Rattle.definitions.specs.Summary.{Section}
use Rattle.definitions.specs.Walk as walks
use Rattle.definitions.proofs.Fold.{bind_fine, fine_inj}
use Rattle.definitions.proofs.Bounds.{effect_within, s_operands_pooled}
use Rattle.vocabulary.specs.Said.{refusal_said}
use Rattle.vocabulary.specs.declared.refusal.Refusal.{Refusal}
use Rattle.module.proofs.Places.{bounds}
use Rattle.module.specs.declared.Sheet.{Sheet}
use Rattle.module.specs.declared.Statement.{Statement}
use Rattle.memory.specs.Changes.{table, section_at}
use Rattle.rules_pairs.specs.Lists.{lists_in, ValidLists}
use Rattle.rules_pairs.proofs.Views.{viewed_lists, stand_same}
use Rattle.rules_pairs.specs.declared.lists.Lists.{Lists}
use Rattle.rules_statements.specs.Said.{outcome_said}
use Rattle.rules_pairs.specs.States.{callees, shape_of, state_of}
use Rattle.rules_statements.specs.Results.{known_shape, known_state, CountsBelow, bound, StatementAt, ValidSection, ValidWalk, walked_said, ValidListsAfter, ValidWalkAfter, WalkResult, OperandsResult, CallResult}
use Rattle.rules_statements.specs.declared.Passed.{Passed}
use Rattle.rules_statements.specs.declared.uniformity.FunctionUniformity.{FunctionUniformity}
use Rattle.rules_statements.proofs.WalkSteps.{callees_kept}
use Rattle.rules_statements.proofs.OperandSteps.{low_seen, seen_low, low_more}
use Rattle.rules_statements.proofs.ByKind.{own_is_call, own_is_other}

-- operands change no list
refer_lists : (os : List Operand) (st : State) → (refer_all os st).lists ≡ st.lists
unfolding refer_all through refer
refer_lists [] st = refl
refer_lists (o ∷ os) st = refer_lists os (refer o st)

-- the state that a statement's own part leaves is that of its effect
own_effect : (m : List ℕ) (done : List Section) (f t : ℕ) (d : walks.Disruptor) (st : State) (v : walks.Walked) → walks.own version_1 m done f t d st ≡ fine v
    → walks.effect version_1 m done f t st ≡ fine v.state
unfolding walks.own
own_effect m done f t d st v e =
    let a = bind_fine _ _ e in
    let b = bind_fine _ _ a.2 in
    a.1 ∙ ap (λ u. fine u.state) (fine_inj b.2)

module _ {m : List ℕ} {s : Sheet} {report w : List ℕ} {l : Lists} {t : ℕ} {x : Statement} (ready : ValidWalk m s report w l t) (at : StatementAt m s t x) where
  -- the counts after it
  own_low : (done : List Section) (d : walks.Disruptor) (w' : List ℕ) (k : Lists) (o : walks.Outcome)
      → fine (record { state = known_state m s.function k w'; outcome = o }) ≡ walks.own version_1 m done s.function t d (known_state m s.function l w)
      → CountsBelow m s.function w' (bound (t + 1))
  unfolding bound
  own_low done d w' k o e =
      let b = bounds m s ready.held.stands in
      let n = b.few_operands in
      let p = b.laid.operands_are in
      let q = b.laid.statements_are in
      let h = at.there in
      let c = s_operands_pooled version_1 m s.function t (ready.held.formed.each_sheet s.function ready.held.present) (omega arith) in
      let a = effect_within version_1 m s.function done (bound t) t (known_state m s.function l w) (known_state m s.function k w')
      (own_effect m done s.function t d (known_state m s.function l w) _ (sym e)) (low_seen m s.function l w (bound t) ready.low) in
      low_more m s.function w' (bound t + s_count m s.function t) (bound (t + 1)) (omega arith)
      (seen_low m s.function k w' (bound t + s_count m s.function t) a)

  settled_kept : (w' : List ℕ) → table w' ≡ table w → (g : ℕ) → g < s.function → ValidSection m report g (section_at (table w') g)
  settled_kept w' e g lt = let h = ready.settled g lt in rw e h

  module _ {w₁ : List ℕ} (refers : OperandsResult m s t w w₁) where
    operands_done : known_state m s.function l w₁ ≡ refer_all (s_operands_of m s.function t) (known_state m s.function l w)
    operands_done = refers.is l ready.stand.few_pairs ready.stand.few_mixed

    lists_still : lists_in l w₁ ≡ lists_in l w
    unfolding state_of shape_of
    lists_still =
        sym (viewed_lists (known_shape m s.function l) w₁ l refl refl)
        ∙ ap (λ st. st.lists) operands_done
        ∙ refer_lists (s_operands_of m s.function t) (known_state m s.function l w)
        ∙ viewed_lists (known_shape m s.function l) w l refl refl

    pub stand_still : ValidLists w₁ l
    stand_still = stand_same w w₁ l ready.stand refers.long lists_still

    pub settled_still : x.number < s.function → ValidSection m report x.number (section_at (table w₁) x.number)
    settled_still lt = settled_kept w₁ refers.kept x.number lt

    -- the walk can go on
    goes : (done : List Section) (d : walks.Disruptor) (w₂ : List ℕ) (r : Result Passed Refusal) → table w₂ ≡ table w → ValidListsAfter w₂ r
        → walked_said m s.function w₂ r ≡ walks.own version_1 m done s.function t d (known_state m s.function l w) → ValidWalkAfter m s report w₂ (t + 1) r
    goes done d w₂ (Ok p) e stand says = record {
      held = ready.held;
      settled = settled_kept w₂ e;
      low = own_low done d w₂ p.lists (outcome_said p.outcome) says;
      stand = stand;
    }
    goes done d w₂ (Err q) e stand says = tt

    pub own_calls : (d : walks.Disruptor) {w₂ : List ℕ} (r : Result Passed Refusal) → x.kind ≡ 6 → CallResult m s report w₁ w₂ t r l
        → WalkResult m s report w w₂ (t + 1) r (walks.own version_1 m (callees m s.function report w) s.function t d (known_state m s.function l w))
    own_calls d {w₂} r h calls =
        let kept = calls.kept ∙ refers.kept in
        let says = calls.says ∙ rw (callees_kept m s.function report w w₁ refers.kept, operands_done) refl
        ∙ sym (own_is_call at.is (callees m s.function report w) d (known_state m s.function l w) h) in
        record { says = says; on = goes (callees m s.function report w) d w₂ r kept calls.stand says; kept = kept }

    pub own_refused : (d : walks.Disruptor) (q : Refusal) → (x.kind ≡ 6 → ⊥)
        → ((k : Lists) (done : List Section) → refused (refusal_said q) ≡ walks.own_outcome m done s.function t d (known_state m s.function k w₁))
        → WalkResult m s report w w₁ (t + 1) (Err q) (walks.own version_1 m (callees m s.function report w) s.function t d (known_state m s.function l w))
    unfolding ◌>>=◌
    own_refused d q h tells = record {
      says = sym (own_is_other at.is (callees m s.function report w) d (known_state m s.function l w) h
          (tells l (callees m s.function report w) ∙ rw operands_done));
      on = tt;
      kept = refers.kept;
    }

    pub own_told : (d : walks.Disruptor) (o : FunctionUniformity) → (x.kind ≡ 6 → ⊥)
        → ((k : Lists) (done : List Section) → fine (outcome_said o) ≡ walks.own_outcome m done s.function t d (known_state m s.function k w₁))
        → WalkResult m s report w w₁ (t + 1) (Ok (record { lists = l; outcome = o })) (walks.own version_1 m (callees m s.function report w) s.function t d (known_state m s.function l w))
    unfolding ◌>>=◌
    own_told d o h tells =
        let says = ap (λ st. fine (record { state = st; outcome = outcome_said o })) operands_done
        ∙ sym (own_is_other at.is (callees m s.function report w) d (known_state m s.function l w) h
        (tells l (callees m s.function report w) ∙ rw operands_done)) in
        record {
          says = says;
          on = goes (callees m s.function report w) d w₁ (Ok (record { lists = l; outcome = o })) refers.kept stand_still says;
          kept = refers.kept;
        }
