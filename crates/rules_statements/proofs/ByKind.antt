-- What a statement gives by itself, kind by kind (01, 5.2).
use Prim.Native.Nat.{ℕ}
use mathlib.Core.Path.{◌≡◌, sym, ◌∙◌}
use mathlib.Core.List.{List}
use mathlib.Core.Bool.{false}
use lib.Dec.{eqb}
use borrow.Author.Tests.{ne_eqb}
use Rattle.definitions.specs.Codes.{BARRIER}
use Rattle.definitions.specs.Limits.{version_1}
use Rattle.definitions.specs.Module.{s_kind}
use Rattle.definitions.specs.Checks.{Checked, fine, ◌>>=◌}
use Rattle.definitions.specs.State.{State, refer_all, s_operands_of}
use Rattle.definitions.specs.Summary.{Section}
use Rattle.definitions.specs.Walk as walks
use Rattle.module.specs.Sheets.{IsStatement}
use Rattle.module.specs.declared.Statement.{Statement}
use Rattle.rules_statements.specs.Said.{kill_outcome, return_outcome}
use Rattle.rules_statements.specs.Results.{emit_outcome, call_outcome, call_walked}

module _ {m : List ℕ} {f t : ℕ} {x : Statement} (is : IsStatement m f t x) where
  kind : (k : ℕ) → x.kind ≡ k → s_kind m f t ≡ k
  kind k h = sym is.kind_is ∙ h

  not_kind : (k : ℕ) → (x.kind ≡ k → ⊥) → eqb (s_kind m f t) k ≡ false
  not_kind k h = ne_eqb _ _ (λ q. h (is.kind_is ∙ q))

  module _ (done : List Section) (d : walks.Disruptor) (s : State) where
    pub own_emit : x.kind ≡ 0 → walks.own_outcome m done f t d s ≡ emit_outcome m f t d s
    unfolding walks.own_outcome emit_outcome
    own_emit h = rw (kind 0 h)

    pub own_kill : x.kind ≡ 2 → walks.own_outcome m done f t d s ≡ fine (kill_outcome d)
    unfolding walks.own_outcome kill_outcome
    own_kill h = rw (kind 2 h)

    pub own_barrier : x.kind ≡ 3 → walks.own_outcome m done f t d s ≡ fine (walks.requiring BARRIER)
    unfolding walks.own_outcome
    own_barrier h = rw (kind 3 h)

    pub own_return : x.kind ≡ 4 → walks.own_outcome m done f t d s ≡ fine (return_outcome d (walks.operand_origin m f t s))
    unfolding walks.own_outcome return_outcome
    own_return h = rw (kind 4 h)

    pub own_quiet : (x.kind ≡ 0 → ⊥) → (x.kind ≡ 2 → ⊥) → (x.kind ≡ 3 → ⊥) → (x.kind ≡ 4 → ⊥) → (x.kind ≡ 6 → ⊥)
        → walks.own_outcome m done f t d s ≡ fine walks.nothing
    unfolding walks.own_outcome
    own_quiet a b c e g = rw (not_kind 0 a, not_kind 2 b, not_kind 3 c, not_kind 4 e, not_kind 6 g)

    -- the whole, for a Call and for the others
    pub own_is_call : x.kind ≡ 6 → walks.own version_1 m done f t d s ≡ call_walked m done f t (refer_all (s_operands_of m f t) s)
    unfolding walks.own walks.effect walks.own_outcome call_walked call_outcome ◌>>=◌
    own_is_call h = rw (kind 6 h)

    pub own_is_other : (x.kind ≡ 6 → ⊥) → {o : Checked walks.Outcome} → o ≡ walks.own_outcome m done f t d (refer_all (s_operands_of m f t) s)
        → walks.own version_1 m done f t d s ≡ (o >>= λ r. fine (record { state = refer_all (s_operands_of m f t) s; outcome = r }))
    unfolding walks.own walks.effect ◌>>=◌
    own_is_other h {o} e = rw (not_kind 6 h, e)
