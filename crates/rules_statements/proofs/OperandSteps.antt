-- The operands of a statement, one after another: what is left of them leads to what all of them lead to.
use Prim.Native.Nat.{ℕ, zero, suc, ◌+◌, ◌*◌, ◌-◌, ◌≤◌, ◌<◌}
use native.Mathlib.Omega.{arith}
use mathlib.Core.Path.{◌≡◌, refl, sym, ap, ◌∙◌, subst}
use mathlib.Core.List.{List, ◌∷◌}
use mathlib.Core.Bool.{false}
use lib.ListN.{length}
use lib.Dec.{eqb}
use borrow.Author.Tests.{ne_eqb}
use Rattle.definitions.specs.Bytes.{range}
use Rattle.definitions.specs.Limits.{version_1}
use Rattle.definitions.specs.Module.{absent, expressions, pooled, s_kind, s_first, s_count, s_operand}
use Rattle.definitions.specs.Checks.{through}
use Rattle.definitions.specs.Roles.{use_of, s_role}
use Rattle.definitions.specs.State.{present, s_operand_at, s_operands_of, refer, refer_all}
use Rattle.definitions.proofs.Loops.{present_left, present_done}
use Rattle.definitions.proofs.Bounds.{CountsWithin, refer_within}
use Rattle.module.proofs.Places.{bounds}
use Rattle.module.specs.declared.Sheet.{Sheet}
use Rattle.module.specs.declared.Statement.{Statement}
use Rattle.memory.specs.Layout.{uses_at, pairs_at, mixed_at, sections_at, size}
use Rattle.memory.specs.View.{viewed, count_at}
use Rattle.memory.specs.Changes.{mask_of, referred, table}
use Rattle.memory.specs.Facts.{ValidShape, ValidCount}
use Rattle.memory.proofs.Records.{records_at}
use Rattle.memory.proofs.StoreState.{viewed_referred}
use Rattle.memory.proofs.Sections.{length_referred, referred_outside, table_before}
use Rattle.rules_pairs.specs.declared.lists.Lists.{Lists}
use Rattle.rules_pairs.specs.States.{shape_of, state_of}
use Rattle.rules_statements.specs.Results.{known_shape, known_state, CountsBelow, bound, WalkContext, StatementAt, OperandsResult}
use Rattle.rules_statements.proofs.Records.{few_expressions, line_in, in_pool, operand_known}

-- the memory has room for all that a function may have
pub fits_full : {m : List ℕ} {s : Sheet} → WalkContext m s → (l : Lists) → l.pairs ≤ version_1.pairs → l.mixed ≤ version_1.pairs → ValidShape (known_shape m s.function l)
unfolding shape_of uses_at pairs_at mixed_at sections_at version_1
fits_full held l p q =
    let n = few_expressions held in
    let g = held.formed.few_globals in
    record { known_in = omega arith; expressions_in = omega arith; globals_in = omega arith; pairs_in = omega arith; mixed_in = omega arith }

-- counts by the memory and by the state
pub low_seen : (m : List ℕ) (f : ℕ) (l : Lists) (w : List ℕ) (k : ℕ) → CountsBelow m f w k → CountsWithin k (known_state m f l w)
unfolding CountsBelow CountsWithin state_of viewed shape_of
low_seen m f l w k h = h

pub seen_low : (m : List ℕ) (f : ℕ) (l : Lists) (w : List ℕ) (k : ℕ) → CountsWithin k (known_state m f l w) → CountsBelow m f w k
unfolding CountsBelow CountsWithin state_of viewed shape_of
seen_low m f l w k h = h

pub low_more : (m : List ℕ) (f : ℕ) (w : List ℕ) (k n : ℕ) → k ≤ n → CountsBelow m f w k → CountsBelow m f w n
unfolding CountsBelow
low_more m f w k n h i x = let a = i x in omega arith

pub low_at : (m : List ℕ) (f : ℕ) (w : List ℕ) (k e : ℕ) → CountsBelow m f w k → e < expressions m f → count_at w (9 * e) ≤ k
unfolding CountsBelow
low_at m f w k e h lt =
    let a = h e in
    let p : 0 + 9 * e ≡ 9 * e = omega arith in
    let b = records_at count_at 9 w 0 (expressions m f) e 0 lt ∙ ap (count_at w) p in
    omega arith

none_yet : Lists
none_yet = record { pairs = 0; mixed = 0 }

none_pairs : none_yet.pairs ≤ version_1.pairs
unfolding none_yet version_1
none_pairs = omega arith

none_mixed : none_yet.mixed ≤ version_1.pairs
unfolding none_yet version_1
none_mixed = omega arith

-- the operands before j have counted and marked
pub record OperandLoop (m : List ℕ) (s : Sheet) (t : ℕ) (first count kind : ℕ) (w₀ w : List ℕ) (j : ℕ) : Type 0 where
  pub held : WalkContext m s
  pub long : length w ≡ size
  pub first_is : first ≡ s_first m s.function t
  pub count_is : count ≡ s_count m s.function t
  pub kind_is : kind ≡ s_kind m s.function t
  pub pooled_in : (i : ℕ) → i < count → first + i < s.operands
  pub known_in : (i : ℕ) → i < count → s_operand m s.function t i < expressions m s.function
  pub within : j ≤ count
  pub early : t ≤ 1024
  pub low : CountsBelow m s.function w (bound t + j)
  pub kept : table w ≡ table w₀
  pub rest : (l : Lists) → l.pairs ≤ version_1.pairs → l.mixed ≤ version_1.pairs
      → through refer (present (s_operand_at m s.function t) (range j (count - j))) (known_state m s.function l w) ≡ refer_all (s_operands_of m s.function t) (known_state m s.function l w₀)

pub refers_none : {m : List ℕ} {s : Sheet} {t : ℕ} {x : Statement} {w : List ℕ} → WalkContext m s → length w ≡ size → StatementAt m s t x → CountsBelow m s.function w (bound t)
    → OperandLoop m s t x.first x.count x.kind w w 0
unfolding refer_all s_operands_of
refers_none {m} {s} {t} {x} {w} held l at low = record {
  held = held;
  long = l;
  first_is = at.is.first_is;
  count_is = at.is.count_is;
  kind_is = at.is.kind_is;
  pooled_in = in_pool held at;
  known_in = operand_known held at;
  within = omega arith;
  early = (let b = bounds m s held.stands in let k = b.few_statements in let h = at.there in omega arith);
  low = low_more m s.function w (bound t) (bound t + 0) (omega arith) low;
  kept = refl;
  rest = λ l _ _.
      let e : x.count - 0 ≡ s_count m s.function t = (let c = at.is.count_is in omega arith) in
      ap (λ n. through refer (present (s_operand_at m s.function t) (range 0 n)) (known_state m s.function l w)) e;
}

module _ {m : List ℕ} {s : Sheet} {t first count kind : ℕ} {w₀ w : List ℕ} {j : ℕ} (v : OperandLoop m s t first count kind w₀ w j) where
  pub few_operands : count ≤ 8192
  few_operands = go count refl
    where
      go : (n : ℕ) → count ≡ n → count ≤ 8192
      go zero e = omega arith
      go (suc n) e =
          let b = bounds m s v.held.stands in
          let k = b.few_operands in
          let p = v.pooled_in n (omega arith) in
          omega arith

  module _ (lt : j < count) {o : ℕ} (is : o ≡ pooled m s.function (first + j)) where
    target : o ≡ s_operand m s.function t j
    unfolding s_operand
    target = is ∙ ap (λ n. pooled m s.function (n + j)) v.first_is

    known : o < expressions m s.function
    known = let k = v.known_in j lt in rw target k

    pub countable : ValidCount w o
    unfolding bound
    countable =
        let l = line_in v.held v.long o known in
        let a = low_at m s.function w (bound t + j) o v.low known in
        let e = v.early in
        let q = few_operands in
        record { long = l.long; here = l.here; room = omega arith }

    there : eqb (s_operand_at m s.function t j).target absent ≡ false
    unfolding s_operand_at absent
    there = ne_eqb _ _ (λ (q : s_operand m s.function t j ≡ 65535). (let k = few_expressions v.held in let h = v.known_in j lt in omega arith))

    first_left : present (s_operand_at m s.function t) (range j (count - j)) ≡ s_operand_at m s.function t j ∷ present (s_operand_at m s.function t) (range (j + 1) (count - (j + 1)))
    first_left = present_left (s_operand_at m s.function t) j count lt ∙ rw there

    room : 9 * o + 9 ≤ pairs_at
    unfolding pairs_at
    room = let k = few_expressions v.held in let h = known in omega arith

    module _ {u : ℕ} {w' : List ℕ} (mask : u ≡ mask_of (use_of (s_role kind j))) (e : w' ≡ referred u w o) (long : length w' ≡ size) where
      one : (l : Lists) → l.pairs ≤ version_1.pairs → l.mixed ≤ version_1.pairs → known_state m s.function l w' ≡ refer (s_operand_at m s.function t j) (known_state m s.function l w)
      unfolding state_of shape_of s_operand_at
      one l p q =
          ap (viewed (known_shape m s.function l)) (e ∙ ap (λ n. referred n w o) mask)
          ∙ viewed_referred (known_shape m s.function l) (fits_full v.held l p q) w v.long o known (use_of (s_role kind j))
          ∙ rw (v.kind_is, target)

      left : (l : Lists) → l.pairs ≤ version_1.pairs → l.mixed ≤ version_1.pairs
          → through refer (present (s_operand_at m s.function t) (range (j + 1) (count - (j + 1)))) (known_state m s.function l w') ≡ refer_all (s_operands_of m s.function t) (known_state m s.function l w₀)
      unfolding through
      left l p q =
          ap (λ st. through refer (present (s_operand_at m s.function t) (range (j + 1) (count - (j + 1)))) st) (one l p q)
          ∙ sym (ap (λ os. through refer os (known_state m s.function l w)) first_left)
          ∙ v.rest l p q

      pub refers_one : OperandLoop m s t first count kind w₀ w' (j + 1)
      refers_one = record {
        held = v.held;
        long = long;
        first_is = v.first_is;
        count_is = v.count_is;
        kind_is = v.kind_is;
        pooled_in = v.pooled_in;
        known_in = v.known_in;
        within = omega arith;
        early = v.early;
        low = low_more m s.function w' (suc (bound t + j)) (bound t + (j + 1)) (omega arith)
            (seen_low m s.function none_yet w' (suc (bound t + j))
            (subst (CountsWithin (suc (bound t + j))) (sym (one none_yet none_pairs none_mixed))
            (refer_within (bound t + j) (s_operand_at m s.function t j) (known_state m s.function none_yet w) (low_seen m s.function none_yet w (bound t + j) v.low))));
        kept = ap table e ∙ table_before w (referred u w o) (referred_outside u w o room) (length_referred u w o) ∙ v.kept;
        rest = left;
      }

  pub refers_all : count ≤ j → OperandsResult m s t w₀ w
  unfolding through
  refers_all ge = record {
    is = λ l p q. ap (λ os. through refer os (known_state m s.function l w)) (sym (present_done (s_operand_at m s.function t) j count ge)) ∙ v.rest l p q;
    long = v.long;
    kept = v.kept;
  }
