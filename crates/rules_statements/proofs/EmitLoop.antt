-- Emit's loop: what is left of the range gives the answer of the whole.
use Prim.Native.Nat.{ℕ, ◌+◌, ◌-◌, ◌≤◌, ◌<◌}
use native.Mathlib.Omega.{arith}
use mathlib.Core.Path.{◌≡◌, sym, ◌∙◌}
use mathlib.Core.List.{List}
use mathlib.Core.Bool.{Bool, true, false, ◌&&◌}
use lib.Dec.{eqb}
use Rattle.definitions.specs.Bytes.{range}
use Rattle.definitions.specs.Codes.{BARRIER, COOPERATIVE, join, meets}
use Rattle.definitions.specs.Module.{flag, expressions, s_first}
use Rattle.definitions.specs.Checks.{fine, refused, ◌>>=◌, each}
use Rattle.definitions.specs.Walk as walks
use Rattle.definitions.proofs.Runs.{run_left, run_done}
use Rattle.module.specs.Sheets.{IsStatement}
use Rattle.module.specs.declared.Statement.{Statement}
use Rattle.memory.specs.Changes.{requirements_of_line}
use Rattle.rules_statements.specs.Results.{known_state, emit_outcome}
use Rattle.rules_pairs.specs.declared.lists.Lists.{Lists}
use Rattle.rules_statements.proofs.Records.{requirements_line}

-- the expressions before e have been taken, their requirements joined are r
pub record EmitLoop (m : List ℕ) (f t : ℕ) (d : walks.Disruptor) (w : List ℕ) (strict : Bool) (end e r : ℕ) : Type 0 where
  pub end_is : end ≡ s_first m f t
  pub inside : end ≤ expressions m f
  pub strict_is : strict ≡ (eqb (flag m f) 1 && walks.disrupted d)
  pub rest : (l : Lists) → walks.emitted m f t d (known_state m f l w) ≡ each (walks.emit_one m f d (known_state m f l w)) (range e (end - e)) r

pub emits_first : {m : List ℕ} {f t : ℕ} {d : walks.Disruptor} {w : List ℕ} {strict : Bool} {x : Statement} {r : ℕ} → IsStatement m f t x
    → x.first ≤ expressions m f → strict ≡ (eqb (flag m f) 1 && walks.disrupted d) → r ≡ 0 → EmitLoop m f t d w strict x.first x.number r
unfolding walks.emitted
emits_first i h b z = record { end_is = i.first_is; inside = h; strict_is = b; rest = λ l. rw (i.first_is, i.number_is, z) }

module _ {m : List ℕ} {f t : ℕ} {d : walks.Disruptor} {w : List ℕ} {strict : Bool} {end e r : ℕ} (v : EmitLoop m f t d w strict end e r) (lt : e < end) {q : ℕ} (is : q ≡ requirements_of_line w e) where
  stopped_is : (l : Lists) → walks.stopped m f d (known_state m f l w) e ≡ (strict && meets q (join BARRIER COOPERATIVE))
  unfolding walks.stopped
  stopped_is l =
      let h = v.inside in
      rw (requirements_line m f l w e (omega arith), ← is, v.strict_is)

  pub emits_more : {b : Bool} {r' : ℕ} → b ≡ (strict && meets q (join BARRIER COOPERATIVE)) → b ≡ false → r' ≡ join r q → EmitLoop m f t d w strict end (e + 1) r'
  unfolding walks.emit_one ◌>>=◌
  emits_more s n j = record {
    end_is = v.end_is;
    inside = v.inside;
    strict_is = v.strict_is;
    rest = λ l.
        let h = v.inside in
        v.rest l ∙ run_left (walks.emit_one m f d (known_state m f l w)) e end r lt
        ∙ rw (stopped_is l, ← s, n, requirements_line m f l w e (omega arith), ← is, ← j);
  }

  pub emits_not : {b : Bool} → b ≡ (strict && meets q (join BARRIER COOPERATIVE)) → b ≡ true → (l : Lists) → refused (walks.non_uniform f e d) ≡ emit_outcome m f t d (known_state m f l w)
  unfolding emit_outcome walks.emit_one ◌>>=◌
  emits_not s y l = sym (rw (v.rest l, run_left (walks.emit_one m f d (known_state m f l w)) e end r lt, stopped_is l, ← s, y))

pub emits_all : {m : List ℕ} {f t : ℕ} {d : walks.Disruptor} {w : List ℕ} {strict : Bool} {end e r : ℕ} → EmitLoop m f t d w strict end e r → end ≤ e
    → {o : walks.Outcome} → o ≡ walks.requiring r → (l : Lists) → fine o ≡ emit_outcome m f t d (known_state m f l w)
unfolding emit_outcome ◌>>=◌
emits_all {m} {f} {t} {d} {w} {strict} {end} {e} {r} v ge q l = sym (rw (v.rest l, run_done (walks.emit_one m f d (known_state m f l w)) e end r ge, q))
