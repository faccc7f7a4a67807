-- Pairs by value: read from bytes, written to them, and found in a list by their keys.
use Prim.Native.Nat.{ℕ, ◌+◌, ◌*◌, ◌<◌, ◌≤◌}
use native.Mathlib.Omega.{arith}
use mathlib.Core.Path.{◌≡◌, sym, ◌∙◌}
use mathlib.Core.List.{List}
use mathlib.Core.Logic.{inl, inr}
use mathlib.Core.Bool.{true}
use Rattle.std.specs.Prelude.{Ok, Err}
use lib.ListN.{get_or, set}
use borrow.Author.Count.{below_more}
use Rattle.definitions.specs.Ends.{before}
use Rattle.definitions.proofs.Insertion.{insert_at, insert_there}
use Rattle.definitions.specs.Bytes.{byte, be16}
use Rattle.definitions.specs.Ends as paper
use Rattle.definitions.specs.Report.{tag, end_number, end_from, r_mixed}
use Rattle.numbers.specs.Stores.{store16}
use Rattle.rules_pairs.specs.Said.{end_said, pair_said}
use Rattle.rules_pairs.specs.Keys.{end_key, key, SmallNumbers}
use Rattle.rules_pairs.specs.Bytes.{listed, stored}
use Rattle.rules_pairs.specs.Facts.{KeyResult, EndKeyResult, FindResult}
use Rattle.rules_pairs.specs.declared.ends.GlobalOrArgument.{GlobalOrArgument}
use Rattle.rules_pairs.specs.declared.ends.GlobalOrArgument.TheVariants.{Global, Argument}
use Rattle.rules_pairs.specs.declared.ends.Pair.{Pair}
use Rattle.vocabulary.specs.declared.ids.GlobalIndex.{GlobalIndex}
use Rattle.vocabulary.specs.declared.ids.ArgumentIndex.{ArgumentIndex}
use Rattle.rules_pairs.proofs.Keys.{key_before, key_same}
use Rattle.rules_pairs.proofs.OpenedPlace.{length_listed, getD_listed}

-- a pair of ends, each from its tag and its number
pub got_pair : (w : List ℕ) (at t u x y : ℕ) (i s : GlobalOrArgument) → t ≡ byte w at → u ≡ byte w (at + 1) → x ≡ be16 w (at + 2) → y ≡ be16 w (at + 4)
    → end_said i ≡ end_from t x → end_said s ≡ end_from u y → pair_said (record { image = i; sampler = s }) ≡ r_mixed w at
unfolding pair_said r_mixed
got_pair w at t u x y i s a b c d e f = rw (e, f, a, b, c, d)

-- a pair, written
pub put_pair : (w w₁ w₂ : List ℕ) (at : ℕ) (p : Pair) (t u x y : ℕ) → t ≡ tag (end_said p.image) → u ≡ tag (end_said p.sampler)
    → x ≡ end_number (end_said p.image) → y ≡ end_number (end_said p.sampler)
    → w₁ ≡ store16 (set (set w at t) (at + 1) u) (at + 2) x → w₂ ≡ store16 w₁ (at + 4) y → w₂ ≡ stored w at (pair_said p)
unfolding pair_said stored
put_pair w w₁ w₂ at p t u x y a b c d e f = rw (f, e, a, b, c, d)

-- its key
pub pair_key : (p : Pair) (i s : ℕ) → EndKeyResult (end_said p.image) i → EndKeyResult (end_said p.sampler) s → KeyResult (pair_said p) (131072 * i + s)
unfolding pair_said key
pair_key p i s a b = record { is = rw (← a.is, ← b.is); small = record { image = a.small; sampler = b.small } }

-- The entries below i stand before the pair whose key is sought: what any search has to know of the place that it
-- found
pub record ScanLoop (w : List ℕ) (list n sought i : ℕ) : Type 0 where
  pub in_list : i ≤ n
  pub small : (j : ℕ) → j < i → SmallNumbers (r_mixed w (list + 6 * j))
  pub lower : (j : ℕ) → j < i → key (r_mixed w (list + 6 * j)) < sought

pub scan_start : (w : List ℕ) (list n sought : ℕ) → ScanLoop w list n sought 0
scan_start w list n sought = record { in_list = omega arith; small = λ j lt. absurd (omega arith); lower = λ j lt. absurd (omega arith) }

lower_listed : (w : List ℕ) (list n sought i : ℕ) → ScanLoop w list n sought i → (p : paper.Pair) → KeyResult p sought
    → (j : ℕ) → j < i → before (get_or (listed w list n) j p) p ≡ true
lower_listed w list n sought i v p for j lt =
    let a = v.in_list in
    let e = for.is in
    let k = v.lower j lt in
    rw (getD_listed w list n j p (omega arith)) (key_before (r_mixed w (list + 6 * j)) p (v.small j lt) for.small (omega arith))

-- the entry at i, with its key k
module _ (w : List ℕ) (list n sought i k : ℕ) (v : ScanLoop w list n sought i) (lt : i < n) (here : KeyResult (r_mixed w (list + 6 * i)) k) where
  pub scan_more : (sought < k → ⊥) → (sought ≡ k → ⊥) → ScanLoop w list n sought (i + 1)
  scan_more not_less not_same =
      let e = here.is in
      record {
        in_list = omega arith;
        small = below_more _ _ v.small here.small;
        lower = below_more _ _ v.lower (omega arith);
      }

  module _ (p : paper.Pair) (for : KeyResult p sought) where
    pub scan_here : sought < k → FindResult (listed w list n) n p (Err i)
    scan_here less =
        let e = here.is in
        let f = for.is in
        let b : before p (get_or (listed w list n) i p) ≡ true =
        rw (getD_listed w list n i p lt) (key_before p (r_mixed w (list + 6 * i)) for.small here.small (omega arith)) in
        record {
          is = sym (insert_at p p (listed w list n) i (lower_listed w list n sought i v p for) (inr b) (rw length_listed v.in_list));
          in_list = v.in_list;
        }

    pub scan_there : sought ≡ k → FindResult (listed w list n) n p (Ok i)
    scan_there same =
        let e = here.is in
        let f = for.is in
        let s : get_or (listed w list n) i p ≡ p =
        getD_listed w list n i p lt ∙ key_same (r_mixed w (list + 6 * i)) p here.small for.small (omega arith) in
        record {
          is = sym (insert_there p p (listed w list n) i (lower_listed w list n sought i v p for) (rw length_listed lt) s);
          in_list = lt;
        }

pub scan_end : (w : List ℕ) (list n sought i : ℕ) (p : paper.Pair) → ScanLoop w list n sought i → n ≤ i → KeyResult p sought → FindResult (listed w list n) n p (Err n)
scan_end w list n sought i p v ge for =
    let l = length_listed w list n in
    record {
      is = sym (insert_at p p (listed w list n) n (λ j lt. lower_listed w list n sought i v p for j (omega arith)) (inl (sym l)) (omega arith));
      in_list = omega arith;
    }

-- the key of an end
pub global_keyed : (e : GlobalOrArgument) (g : GlobalIndex) (r : ℕ) → e ≡ Global g → r ≡ g.0 → r < 65536 → EndKeyResult (end_said e) r
unfolding end_key tag end_number
global_keyed e g r h is small = rw h (record { is = omega arith; small = omega arith; less = omega arith })

pub argument_keyed : (e : GlobalOrArgument) (a : ArgumentIndex) (r : ℕ) → e ≡ Argument a → r ≡ a.0 → r < 65536 → EndKeyResult (end_said e) (65536 + r)
unfolding end_key tag end_number
argument_keyed e a r h is small = rw h (record { is = omega arith; small = omega arith; less = omega arith })
