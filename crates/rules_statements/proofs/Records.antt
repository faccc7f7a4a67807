-- What is read of a statement and of the memory is what the definitions read of them.
use Prim.Native.Nat.{ℕ, ◌+◌, ◌*◌, ◌≤◌, ◌<◌}
use native.Mathlib.Omega.{arith}
use mathlib.Core.Path.{◌≡◌, refl, sym, ap, ◌∙◌}
use mathlib.Core.List.{List}
use mathlib.Core.Bool.{Bool, true, false, ◌&&◌, ◌||◌, not, true≢false}
use lib.Dec.{eqb, leb, ltb}
use lib.ListN.{length}
use borrow.Author.Tests.{eq-eqb, ne_eqb, eqb-true, leb-true, lt-leb, ltb-false, not-false}
use Rattle.definitions.specs.Limits.{version_1}
use Rattle.definitions.specs.Module.{expressions, operands, s_kind, s_number, s_end, s_first, s_count, s_operand, pooled}
use Rattle.definitions.specs.Form.{s_in_pool, holds_others}
use Rattle.definitions.specs.Origin.{Origin, nowhere}
use Rattle.definitions.specs.State.{State, known_of, unknown}
use Rattle.definitions.specs.Walk as walks
use Rattle.definitions.proofs.Passed.{when_left}
use Rattle.definitions.proofs.Formed.{StatementFormed, s_operand_in}
use Rattle.module.specs.Sheets.{IsStatement}
use Rattle.module.proofs.Places.{bounds}
use Rattle.module.specs.declared.Sheet.{Sheet}
use Rattle.module.specs.declared.Statement.{Statement}
use Rattle.memory.specs.Layout.{size}
use Rattle.memory.specs.View.{viewed, known_at}
use Rattle.memory.specs.Changes.{origin_of_line, requirements_of_line}
use Rattle.memory.specs.Facts.{ValidLine}
use Rattle.memory.proofs.Records.{records_at}
use Rattle.rules_pairs.specs.States.{shape_of, state_of}
use Rattle.rules_statements.specs.Results.{known_state, WalkContext, StatementAt}
use Rattle.rules_pairs.specs.declared.lists.Lists.{Lists}

or_none : (a b : Bool) → (a || b) ≡ false → (a ≡ false) × (b ≡ false)
or_none true b h = absurd (true≢false h)
or_none false b h = (refl, h)

-- what holds no others is one record long
pub short : (m : List ℕ) (f t k : ℕ) → StatementFormed version_1 m f t → s_kind m f t ≡ k → k < 7 → s_end m f t ≡ t + 1
unfolding holds_others
short m f t k x e h = eqb-true _ _ (not-false _ (go (leb 7 (s_kind m f t)) (ap (leb 7) e ∙ lt-leb 7 k h) x.leaf_short))
  where
    go : (b : Bool) {c : Bool} → b ≡ false → (not b && c) ≡ false → c ≡ false
    go true q r = absurd (true≢false q)
    go false q r = r

pub few_expressions : {m : List ℕ} {s : Sheet} → WalkContext m s → expressions m s.function ≤ 2048
few_expressions {m} {s} held =
    let b = bounds m s held.stands in
    let q = b.laid.expressions_are in
    let k = b.few_expressions in
    omega arith

-- every expression has a line
pub line_in : {m : List ℕ} {s : Sheet} → WalkContext m s → {w : List ℕ} → length w ≡ size → (e : ℕ) → e < expressions m s.function → ValidLine w e
unfolding size
line_in held l e lt =
    let k = few_expressions held in
    record { long = l; here = omega arith }

-- what the form checks say of a statement
module _ {m : List ℕ} {s : Sheet} (held : WalkContext m s) {t : ℕ} {x : Statement} (at : StatementAt m s t x) where
  pub formed_at : StatementFormed version_1 m s.function t
  formed_at =
      let b = bounds m s held.stands in
      let e = b.laid.statements_are in
      let k = at.there in
      (held.formed.each_sheet s.function held.present).each_statement t (omega arith)

  pub ends_at_once : x.kind < 7 → x.end ≤ t + 1
  ends_at_once h =
      let e = short m s.function t x.kind formed_at (sym at.is.kind_is) h in
      let q = at.is.end_is in
      omega arith

  -- its operands stand in the pool, and are expressions
  pub in_pool : (j : ℕ) → j < x.count → x.first + j < s.operands
  unfolding s_in_pool
  in_pool j lt =
      let b = bounds m s held.stands in
      let o = b.laid.operands_are in
      let n = at.is.count_is in
      let p = at.is.first_is in
      let z : eqb (s_count m s.function t) 0 ≡ false = ne_eqb _ _ (λ (q : s_count m s.function t ≡ 0). omega arith) in
      let u : leb (s_first m s.function t + s_count m s.function t) (operands m s.function) ≡ true =
      rw z at (not-false (s_in_pool m s.function t) formed_at.pooled) in
      let v = leb-true (s_first m s.function t + s_count m s.function t) (operands m s.function) u in
      omega arith

  pub operand_known : (j : ℕ) → j < x.count → s_operand m s.function t j < expressions m s.function
  operand_known j lt = let n = at.is.count_is in s_operand_in version_1 m s.function t formed_at j (omega arith)

  pub emits : x.kind ≡ 0 → x.first ≤ expressions m s.function
  emits k =
      let i = at.is in
      let e = formed_at.emit_in_range in
      let q : eqb (s_kind m s.function t) 0 ≡ true = eq-eqb _ _ (sym i.kind_is ∙ k) in
      let r = or_none (ltb (s_first m s.function t) (s_number m s.function t)) (ltb (expressions m s.function) (s_first m s.function t)) (when_left _ _ q e) in
      let v = ltb-false (expressions m s.function) (s_first m s.function t) r.1 in
      let u = i.first_is in
      omega arith

-- the line of an expression
pub known_line : (m : List ℕ) (f : ℕ) (l : Lists) (w : List ℕ) (e : ℕ) → e < expressions m f → known_of (known_state m f l w) e ≡ known_at w (9 * e)
unfolding known_of state_of viewed shape_of
known_line m f l w e h =
    records_at known_at 9 w 0 (expressions m f) e unknown h
    ∙ ap (known_at w) (let q : 0 + 9 * e ≡ 9 * e = omega arith in q)

pub origin_line : (m : List ℕ) (f : ℕ) (l : Lists) (w : List ℕ) (e : ℕ) → e < expressions m f → (known_of (known_state m f l w) e).origin ≡ origin_of_line w e
unfolding known_at origin_of_line
origin_line m f l w e h = ap (λ k. k.origin) (known_line m f l w e h)

pub requirements_line : (m : List ℕ) (f : ℕ) (l : Lists) (w : List ℕ) (e : ℕ) → e < expressions m f → (known_of (known_state m f l w) e).requirements ≡ requirements_of_line w e
unfolding known_at requirements_of_line
requirements_line m f l w e h = ap (λ k. k.requirements) (known_line m f l w e h)

-- the first operand's origin
pub no_operand_origin : {m : List ℕ} {f t : ℕ} {x : Statement} (st : State) → IsStatement m f t x → x.count ≡ 0 → nowhere ≡ walks.operand_origin m f t st
unfolding walks.operand_origin
no_operand_origin st i h = rw (eq-eqb _ _ (sym i.count_is ∙ h))

pub some_operand_origin : {m : List ℕ} {s : Sheet} (w : List ℕ) → WalkContext m s → {t : ℕ} {x : Statement} → StatementAt m s t x → (l : Lists) {p : ℕ} {o : Origin}
    → (x.count ≡ 0 → ⊥) → p ≡ pooled m s.function x.first → o ≡ origin_of_line w p
    → o ≡ walks.operand_origin m s.function t (known_state m s.function l w)
unfolding walks.operand_origin s_operand
some_operand_origin {m} {s} w held {t} {x} at l {p} h e q =
    let i = at.is in
    let z : eqb (s_count m s.function t) 0 ≡ false = ne_eqb _ _ (λ v. h (i.count_is ∙ v)) in
    let k : x.first ≡ s_first m s.function t + 0 = (let a = i.first_is in omega arith) in
    let y : p ≡ s_operand m s.function t 0 = e ∙ ap (pooled m s.function) k in
    let b : s_operand m s.function t 0 < expressions m s.function = operand_known held at 0 (omega arith) in
    q ∙ ap (origin_of_line w) y ∙ sym (origin_line m s.function l w _ b) ∙ rw z

-- 5.6 a statement that is no arm
pub next_after : (m : List ℕ) (f t : ℕ) (x : Statement) (begin d r : walks.Disruptor) (o : walks.Outcome) → IsStatement m f t x → (x.kind ≡ 11 → ⊥)
    → r ≡ walks.or_then d (walks.exit o) → r ≡ walks.next m f t begin d o
unfolding walks.next
next_after m f t x begin d r o is h e = e ∙ rw (ne_eqb (s_kind m f t) 11 (λ q. h (is.kind_is ∙ q)))

-- its first operand, as the code asks for it
module _ {m : List ℕ} {s : Sheet} (held : WalkContext m s) {t : ℕ} {x : Statement} (at : StatementAt m s t x) (some : x.count ≡ 0 → ⊥) where
  pub first_in_pool : x.first < s.operands
  first_in_pool = let p = in_pool held at 0 (omega arith) in omega arith

  pub first_line : {w : List ℕ} → length w ≡ size → (p : ℕ) → p ≡ pooled m s.function x.first → ValidLine w p
  unfolding s_operand
  first_line l p e =
      let i = at.is in
      let k : x.first ≡ s_first m s.function t + 0 = (let a = i.first_is in omega arith) in
      let y : p ≡ s_operand m s.function t 0 = e ∙ ap (pooled m s.function) k in
      let b : s_operand m s.function t 0 < expressions m s.function = operand_known held at 0 (omega arith) in
      line_in held l p (rw y b)
