-- Pairs that the list has already change nothing when they enter.
use Prim.Native.Nat.{ℕ, zero, suc, ◌+◌, ◌*◌, ◌-◌, ◌<◌, ◌≤◌}
use native.Mathlib.Omega.{arith}
use mathlib.Core.Path.{◌≡◌, refl, sym, ◌∙◌, subst}
use mathlib.Core.List.{List, [], ◌∷◌}
use mathlib.Core.Logic.{inl, inr}
use mathlib.Core.Bool.{Bool, true, false}
use lib.ListN.{length}
use borrow.Author.Count.{below_more}
use Rattle.definitions.specs.Bytes.{byte, be16, be32}
use Rattle.definitions.specs.Limits.{version_1}
use Rattle.definitions.specs.Checks as checks
use Rattle.definitions.specs.Checks.{fine, ◌>>=◌, each}
use Rattle.definitions.specs.Ends as paper
use Rattle.definitions.specs.Ends.{before, both_global, is_global}
use Rattle.definitions.specs.Pairs as pairs
use Rattle.definitions.specs.Pairs.{insert, within, enter}
use Rattle.definitions.specs.Chains.{Mem, Ascending}
use Rattle.definitions.specs.Report.{records, end_from, r_pair, r_mixed}
use Rattle.definitions.proofs.Order.{before_trans, before_irrefl}
use Rattle.numbers.proofs.Laws.{ValidBytes}
use Rattle.memory.specs.Layout.{pairs_at, mixed_at}
use Rattle.rules_pairs.specs.Bytes.{listed}
use Rattle.rules_pairs.specs.Known.{KnownResult}
use Rattle.rules_pairs.specs.Lists.{lists_in, ValidLists}
use Rattle.rules_pairs.specs.declared.lists.Lists.{Lists}
use Rattle.rules_pairs.proofs.Records.{mem_records}
use Rattle.rules_pairs.proofs.OpenedPlace.{length_listed}
use Rattle.rules_pairs.proofs.Insert.{within_fits}
use Rattle.rules_pairs.proofs.CalleeLists.{RecordLoop}

-- a pair that an ascending list has stays where it is
insert_known : (x : paper.Pair) (l : List paper.Pair) → Ascending l → Mem x l → insert x l ≡ l
unfolding insert
insert_known x [] a m = absurd m
insert_known x (y ∷ ys) a (inl e) = rw e (go (before y y) refl)
  where
    go : (b : Bool) → before y y ≡ b → insert y (y ∷ ys) ≡ y ∷ ys
    go true h = absurd (before_irrefl y h)
    go false h = rw (h, insert, h)
insert_known x (y ∷ ys) a (inr m) = go (insert_known x ys a.1 m) (before x y) refl
  where
    later : before y x ≡ true
    later = a.0 x m

    go : insert x ys ≡ ys → (b : Bool) → before x y ≡ b → insert x (y ∷ ys) ≡ y ∷ ys
    go rest true h = absurd (before_irrefl y (before_trans y x y later h))
    go rest false h = rw (h, later, rest, insert)

-- two pairs with the same numbers and no tag
pub same_pair : (b w : List ℕ) (p q : ℕ) → byte w q ≡ 0 → byte w (q + 1) ≡ 0 → be16 b p ≡ be16 w (q + 2) → be16 b (p + 2) ≡ be16 w (q + 4) → r_pair b p ≡ r_mixed w q
unfolding r_pair r_mixed end_from
same_pair b w p q t u i s = rw (t, u, i, s)

-- the same by words
pub same_words : (b w : List ℕ) (p q : ℕ) → ValidBytes b → ValidBytes w → be16 w q ≡ 0 → be32 b p ≡ be32 w (q + 2) → r_pair b p ≡ r_mixed w q
unfolding be16 be32
same_words b w p q ob ow t e =
    let b₀ = ob.small p in
    let b₁ = ob.small (p + 1) in
    let b₂ = ob.small (p + 2) in
    let b₃ = ob.small (p + 2 + 1) in
    let w₀ = ow.small (q + 2) in
    let w₁ = ow.small (q + 2 + 1) in
    let w₂ = ow.small (q + 2 + 2) in
    let w₃ = ow.small (q + 2 + 2 + 1) in
    let four : q + 2 + 2 ≡ q + 4 = omega arith in
    same_pair b w p q (omega arith) (omega arith) (omega arith) (subst (λ (x : ℕ). be16 b (p + 2) ≡ be16 w x) four (omega arith))

-- what holds from a up to i, and at i, holds up to i + 1
from_to : (P : ℕ → Type 0) (a i : ℕ) → ((x : ℕ) → a ≤ x → x < i → P x) → P i → (x : ℕ) → a ≤ x → x < i + 1 → P x
from_to P a i below here x ge lt = below_more (λ (y : ℕ). a ≤ y → P y) i (λ y less le. below y le less) (λ le. here) x lt ge

-- how far the search has come: i of the callee's pairs are known
module _ (b : List ℕ) (at from n : ℕ) (w : List ℕ) (k : ℕ) where
  pub search_start : from ≤ n → KnownResult b at from n w k from
  search_start h = record { reaches = omega arith; within = h; there = λ i ge lt. absurd (omega arith) }

  -- the pair i is the entry j
  pub search_found : (i j : ℕ) → KnownResult b at from n w k i → i < n → j < k → r_pair b (at + 4 * i) ≡ r_mixed w (pairs_at + 6 * j) → KnownResult b at from n w k (i + 1)
  unfolding listed
  search_found i j v lt in_list e = record {
    reaches = (let h = v.reaches in omega arith);
    within = omega arith;
    there = from_to (λ (x : ℕ). Mem (r_pair b (at + 4 * x)) (listed w pairs_at k)) from i v.there (subst (λ (p : paper.Pair). Mem p (listed w pairs_at k)) (sym e) (mem_records r_mixed 6 w pairs_at k j in_list));
  }

-- an entry that is tested to be in the list has a place in working memory
pub in_room : (j k : ℕ) → j < k → k ≤ version_1.pairs → pairs_at + 6 * j + 6 ≤ mixed_at
unfolding version_1 pairs_at mixed_at
in_room j k h few = omega arith

-- a pair that is there enters as nothing
enter_known : (full : checks.Refusal) (p : paper.Pair) (l : pairs.Lists) → both_global p ≡ true → Mem p l.pairs → Ascending l.pairs → length l.pairs ≤ version_1.pairs
    → enter version_1 full p l ≡ fine l
unfolding enter ◌>>=◌
enter_known full p l global mem ascends few =
    rw (global, insert_known p l.pairs ascends mem, within_fits version_1 full l.pairs few)

global_pair : (b : List ℕ) (p : ℕ) → both_global (r_pair b p) ≡ true
unfolding both_global r_pair is_global
global_pair b p = refl

-- the known ones of a run may be left out
module _ (full : checks.Refusal) (b : List ℕ) (at n : ℕ) (w₀ : List ℕ) (l₀ : Lists) (w : List ℕ) (l : Lists) where
  skipped : (stand : ValidLists w l) (c i : ℕ) → i + c ≤ n → ((x : ℕ) → i ≤ x → x < i + c → Mem (r_pair b (at + 4 * x)) (listed w pairs_at l.pairs))
      → each (enter version_1 full) (records r_pair 4 b (at + 4 * i) (n - i)) (lists_in l w) ≡ each (enter version_1 full) (records r_pair 4 b (at + 4 * (i + c)) (n - (i + c))) (lists_in l w)
  unfolding each records lists_in ◌>>=◌
  skipped stand zero i le there = let e : i + 0 ≡ i = omega arith in rw e
  skipped stand (suc c) i le there =
      let p : n - i ≡ suc (n - (i + 1)) = omega arith in
      let q : at + 4 * i + 4 ≡ at + 4 * (i + 1) = omega arith in
      let s : i + 1 + c ≡ i + suc c = omega arith in
      let h = stand.few_pairs in
      let here : enter version_1 full (r_pair b (at + 4 * i)) (lists_in l w) ≡ fine (lists_in l w) =
      enter_known full (r_pair b (at + 4 * i)) (lists_in l w) (global_pair b (at + 4 * i)) (there i (omega arith) (omega arith)) stand.pairs_ascend (rw length_listed h) in
      let rest = skipped stand c (i + 1) (omega arith) (λ x ge lt. there x (omega arith) (omega arith)) in
      rw (p, q, here) (rest ∙ rw s)

  pub turn_skip : (from i : ℕ) → RecordLoop (enter version_1 full) r_pair 4 b at n w₀ l₀ w l from → KnownResult b at from n w l.pairs i → RecordLoop (enter version_1 full) r_pair 4 b at n w₀ l₀ w l i
  turn_skip from i v known =
      let a = known.reaches in
      let e : from + (i - from) ≡ i = omega arith in
      let h = known.within in
      let left = skipped v.stand (i - from) from (omega arith) (λ x ge lt. known.there x ge (omega arith)) in
      record {
        within = known.within;
        stand = v.stand;
        below = v.below;
        above = v.above;
        left = rw e at (sym left) ∙ v.left;
      }
