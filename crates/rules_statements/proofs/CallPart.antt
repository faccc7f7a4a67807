-- A Call's own part: what it reads of its callee's section, and that the memory it leaves is what the definitions say.
use Prim.Native.Nat.{ℕ, zero, suc, ◌+◌, ◌*◌, ◌≤◌, ◌<◌}
use native.Mathlib.Omega.{arith}
use mathlib.Core.Path.{◌≡◌, refl, sym, ap, ◌∙◌}
use mathlib.Core.List.{List}
use mathlib.Core.Bool.{false}
use lib.ListN.{length}
use lib.Dec.{ltb}
use borrow.Author.Tests.{eq-eqb, eqb-true, ltb-false, not-false}
use Rattle.std.specs.Prelude.{Result, Ok, Err}
use Rattle.definitions.specs.Bytes.{byte}
use Rattle.definitions.specs.Limits.{version_1}
use Rattle.definitions.specs.Module.{globals, arguments, s_kind, s_number, s_first, s_count}
use Rattle.definitions.specs.Checks.{◌>>=◌}
use Rattle.definitions.specs.Pairs as paper
use Rattle.definitions.specs.Report.{records, r_lists, r_summary, r_section_end, r_entries_at, r_mixed_at, r_pairs_at}
use Rattle.definitions.specs.Summary.{summary_of}
use Rattle.definitions.specs.Walk as walks
use Rattle.definitions.proofs.Passed.{when_left}
use Rattle.definitions.proofs.Formed.{call_lower}
use Rattle.vocabulary.specs.declared.refusal.Refusal.{Refusal}
use Rattle.module.proofs.Places.{bounds}
use Rattle.module.specs.declared.Sheet.{Sheet}
use Rattle.module.specs.declared.Statement.{Statement}
use Rattle.memory.specs.Layout.{uses_at, sections_at, size}
use Rattle.memory.specs.View.{viewed}
use Rattle.memory.specs.Changes.{with_uses, table, section_at, told}
use Rattle.memory.proofs.View as view
use Rattle.memory.proofs.StretchState.{viewed_joined, table_joined}
use Rattle.memory.proofs.Sections.{told_summary}
use Rattle.rules_pairs.specs.Lists.{lists_in, ValidLists, ListsResult}
use Rattle.rules_pairs.specs.Tracing.{ValidCall, ValidCallee}
use Rattle.rules_pairs.proofs.Views.{viewed_lists, stand_same, state_after, state_said, table_after}
use Rattle.rules_pairs.specs.declared.lists.Lists.{Lists}
use Rattle.report.specs.Written.{SummaryRead}
use Rattle.report.specs.declared.Summary as read
use Rattle.rules_statements.specs.Said.{outcome_said, summary_outcome}
use Rattle.rules_pairs.specs.States.{callees, shape_of, state_of}
use Rattle.rules_statements.specs.Results.{known_shape, known_state, WalkContext, StatementAt, ValidSection, call_outcome, call_walked, CallResult}
use Rattle.rules_statements.specs.declared.uniformity.FunctionUniformity.{FunctionUniformity}
use Rattle.rules_statements.proofs.Records.{formed_at, operand_known, in_pool}
use Rattle.rules_statements.proofs.OperandSteps.{fits_full}
use Rattle.rules_pairs.proofs.FromForm.{has_bases}

-- the section of the callee begins at `from`, and there are g globals
pub record CalleeAt (m : List ℕ) (report w : List ℕ) (n from g : ℕ) : Type 0 where
  pub settled : ValidSection m report n from
  pub here : from ≡ section_at (table w) n
  pub all : g ≡ globals m

pub callee_at : {m report w : List ℕ} {n k from g : ℕ} → ValidSection m report n (section_at (table w) n) → k ≡ n → from ≡ section_at (table w) k
    → {a : ℕ} → g ≡ a → a ≡ globals m → CalleeAt m report w n from g
callee_at v n h e f = record { settled = rw (h, n) v; here = rw (h, n); all = e ∙ f }

module _ {m : List ℕ} {s : Sheet} (held : WalkContext m s) {t : ℕ} {x : Statement} (at : StatementAt m s t x) (call : x.kind ≡ 6) where
  is_call : s_kind m s.function t ≡ 6
  is_call = sym at.is.kind_is ∙ call

  -- the callee is a lower function
  pub lower : x.number < s.function
  lower =
      let k = call_lower version_1 m s.function t (formed_at held at) is_call in
      let n = at.is.number_is in
      omega arith

  pub section_there : sections_at + 4 * x.number + 4 ≤ size
  unfolding sections_at size version_1
  section_there =
      let k = lower in
      let p = held.present in
      let n = held.formed.few_functions in
      omega arith

  -- with as many arguments as the Call has operands
  arguments_are : s_count m s.function t ≡ arguments m x.number
  arguments_are =
      let f = formed_at held at in
      let e = not-false _ (when_left _ _ (eq-eqb _ _ is_call) f.arguments_fit) in
      eqb-true _ _ e ∙ ap (arguments m) (sym at.is.number_is)

  pub calling : ValidCall m s t x.first
  calling =
      let b = bounds m s held.stands in
      let n = b.laid.expressions_are in
      record {
        stands = held.stands;
        bases = has_bases version_1 m s held.stands (held.formed.each_sheet s.function held.present);
        begins = at.is.first_is;
        pooled_in = pooled x.count refl;
        is_known = λ j lt. let c = at.is.count_is in let k = operand_known held at j (omega arith) in omega arith;
      }
    where
      pooled : (n : ℕ) → x.count ≡ n → x.first + s_count m s.function t ≤ s.operands
      pooled zero e =
          let f = formed_at held at in
          let z : s_count m s.function t ≡ 0 = sym at.is.count_is ∙ e in
          let i : ltb 0 (s_first m s.function t) ≡ false = rw (is_call, z) at f.first_idle in
          let n = ltb-false 0 (s_first m s.function t) i in
          let a = at.is.first_is in
          omega arith
      pooled (suc n) e = let c = at.is.count_is in let p = in_pool held at n (omega arith) in omega arith

  module _ {report w : List ℕ} {g from : ℕ} (place : CalleeAt m report w x.number from g) where
    -- where the callee's uses stand
    pub uses_within : from + 10 + g ≤ length report
    unfolding r_section_end r_entries_at r_mixed_at r_pairs_at
    uses_within = let k = place.settled.within in let a = place.all in omega arith

    pub uses_room : uses_at + g ≤ size
    unfolding uses_at size version_1
    uses_room = let n = held.formed.few_globals in let a = place.all in omega arith

    pub callee : ValidCallee m s t g report from
    unfolding r_section_end
    callee = record {
      fits = let k = place.settled.within in rw place.all (omega arith);
      below = λ i lt.
          let e = place.settled.mixed i lt in
          let c = arguments_are in
          rw place.all (record { image = rw c e.image; sampler = rw c e.sampler });
    }

    -- what is known of the memory once the uses are joined
    module _ {l : Lists} (stand : ValidLists w l) {u : ℕ} (uses : u ≡ from + 10) {w₁ : List ℕ} (after_uses : w₁ ≡ with_uses report u g w) (long : length w₁ ≡ size) where
      all : g ≡ globals m
      all = place.all

      e : w₁ ≡ with_uses report (from + 10) g w
      e = after_uses ∙ ap (λ v. with_uses report v g w) uses

      joined : known_state m s.function l w₁ ≡ view.used (walks.join_uses (known_state m s.function l w).uses (records byte 1 report (from + 10) (globals m))) (known_state m s.function l w)
      unfolding state_of shape_of
      joined =
          ap (viewed (known_shape m s.function l)) (e ∙ ap (λ n. with_uses report (from + 10) n w) all)
          ∙ viewed_joined (known_shape m s.function l) (fits_full held l stand.few_pairs stand.few_mixed) w stand.long report (from + 10)

      pub table_same : table w₁ ≡ table w
      unfolding shape_of
      table_same =
          ap table (e ∙ ap (λ n. with_uses report (from + 10) n w) all)
          ∙ table_joined (known_shape m s.function l) (fits_full held l stand.few_pairs stand.few_mixed) w stand.long report (from + 10)

      lists_same : lists_in l w₁ ≡ lists_in l w
      unfolding state_of shape_of
      lists_same =
          sym (viewed_lists (known_shape m s.function l) w₁ l refl refl)
          ∙ ap (λ st. st.lists) joined
          ∙ viewed_lists (known_shape m s.function l) w l refl refl

      pub stand_joined : ValidLists w₁ l
      stand_joined = stand_same w w₁ l stand long lists_same

      -- the callee's summary is what its section says
      summary_is : summary_of (callees m s.function report w) (s_number m s.function t) ≡ r_summary (globals m) report from
      unfolding callees
      summary_is =
          let k = lower in
          ap (summary_of (told (globals m) report (table w) s.function)) (sym at.is.number_is)
          ∙ told_summary (globals m) report (table w) s.function x.number k
          ∙ ap (r_summary (globals m) report) (sym place.here)

      module _ (w₂ : List ℕ) (r : Result Lists Refusal) (after : ListsResult w₁ (paper.take_pairs version_1 m s.function t (r_lists g report from) (lists_in l w₁)) w₂ r) where
        lists_are : lists_in l w₁ ≡ (known_state m s.function l w).lists
        unfolding state_of shape_of
        lists_are = lists_same ∙ sym (viewed_lists (known_shape m s.function l) w l refl refl)

        called_is : walks.call version_1 m (callees m s.function report w) s.function t (known_state m s.function l w) ≡ state_said (known_shape m s.function l) r w₂
        unfolding walks.call walks.called r_summary state_of
        called_is = sym (
            state_after (known_shape m s.function l) (fits_full held l stand.few_pairs stand.few_mixed) w₁ _ w₂ r after
            ∙ rw (joined, lists_are, all, summary_is))

        table_is : table w₂ ≡ table w
        table_is = table_after (known_shape m s.function l) (fits_full held l stand.few_pairs stand.few_mixed) w₁ _ w₂ r after ∙ table_same

      pub call_refuses : {w₂ : List ℕ} {q : Refusal} → ListsResult w₁ (paper.take_pairs version_1 m s.function t (r_lists g report from) (lists_in l w₁)) w₂ (Err q)
          → CallResult m s report w w₂ t (Err q) l
      unfolding call_walked ◌>>=◌
      call_refuses {w₂} {q} after = record { says = sym (rw (called_is w₂ (Err q) after)); stand = tt; kept = table_is w₂ (Err q) after }

      pub call_done : {w₂ : List ℕ} {k : Lists} {o : FunctionUniformity} {y : read.Summary}
          → ListsResult w₁ (paper.take_pairs version_1 m s.function t (r_lists g report from) (lists_in l w₁)) w₂ (Ok k)
          → SummaryRead report from y → outcome_said o ≡ summary_outcome y → CallResult m s report w w₂ t (Ok (record { lists = k; outcome = o })) l
      unfolding call_walked ◌>>=◌ state_of shape_of call_outcome summary_outcome r_summary
      call_done {w₂} {k} after tells says = record {
        says = sym (rw (called_is w₂ (Ok k) after, summary_is, says, tells.origin, tells.requirements, tells.may_kill));
        stand = after.stand;
        kept = table_is w₂ (Ok k) after;
      }
