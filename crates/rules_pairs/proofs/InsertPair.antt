-- What entering a pair leaves, from what the insertion into one list has left; and steps over the lists one after
-- another.
use Prim.Native.Nat.{ℕ, ◌+◌, ◌*◌, ◌≤◌}
use native.Mathlib.Omega.{arith}
use mathlib.Core.Path.{◌≡◌, refl, sym, ap, ◌∙◌, subst}
use mathlib.Core.List.{List}
use mathlib.Core.Bool.{Bool, true, false}
use Rattle.std.specs.Prelude.{Option, Some, None, Ok, Err}
use Rattle.std.specs.Option.{ok_or}
use lib.Dec.{leb}
use lib.ListN.{length, take, drop}
use Rattle.definitions.specs.Bytes.{byte}
use Rattle.definitions.specs.Limits.{version_1}
use Rattle.definitions.specs.Checks as checks
use Rattle.definitions.specs.Checks.{Checked, fine, refused, ◌>>=◌}
use Rattle.definitions.specs.Ends as paper
use Rattle.definitions.specs.Ends.{both_global}
use Rattle.definitions.specs.Pairs as pairs
use Rattle.definitions.specs.Pairs.{insert, within, enter}
use Rattle.definitions.specs.Chains.{Ascending}
use Rattle.definitions.proofs.Sorted.{insert_ascending}
use Rattle.definitions.proofs.Fold.{fine_inj, not_fine}
use Rattle.memory.specs.Layout.{pairs_at, mixed_at, sections_at, size}
use Rattle.vocabulary.specs.declared.refusal.Refusal.{Refusal}
use Rattle.vocabulary.specs.Said.{refusal_said}
use Rattle.rules_pairs.specs.Bytes.{listed}
use Rattle.rules_pairs.specs.Facts.{ValidInsert, InsertResult, inserted_said, entries}
use Rattle.rules_pairs.specs.Lists.{lists_in, ValidLists, ListsResult}
use Rattle.rules_pairs.specs.declared.lists.Lists.{Lists}
use Rattle.rules_pairs.proofs.OpenedPlace.{take_same, drop_same, byte_below, byte_above, listed_same}

-- both lists have room
pub pairs_roomy : (w : List ℕ) (l : Lists) → ValidLists w l → ValidInsert version_1 w pairs_at l.pairs
unfolding pairs_at size version_1
pairs_roomy w l h = record { fits = (let e = h.long in omega arith); few = h.few_pairs; ascends = h.pairs_ascend }

pub mixed_roomy : (w : List ℕ) (l : Lists) → ValidLists w l → ValidInsert version_1 w mixed_at l.mixed
unfolding mixed_at size version_1
mixed_roomy w l h = record { fits = (let e = h.long in omega arith); few = h.few_mixed; ascends = h.mixed_ascend }

-- a list that can't take a pair is full
pub is_full : (o : Option ℕ) (r x : Refusal) → ok_or o r ≡ Err x → (o ≡ None) × (refusal_said x ≡ refusal_said r)
is_full None r x e = (refl, grind arith)
is_full (Some n) r x e = grind arith

-- a list that was let in is the definitions' list
within_is : (full : checks.Refusal) (l l' : List paper.Pair) → fine l' ≡ within version_1 full l → l' ≡ l
unfolding within
within_is full l l' e = go (leb (length l) version_1.pairs) refl
  where
    go : (b : Bool) → leb (length l) version_1.pairs ≡ b → l' ≡ l
    go true h = fine_inj (e ∙ rw h)
    go false h = let q : fine l' ≡ refused full = e ∙ rw h in absurd (not_fine (sym q))

-- 4.4 the list that a pair's ends say
enter_pairs : (full : checks.Refusal) (p : paper.Pair) (l : pairs.Lists) → both_global p ≡ true
    → enter version_1 full p l ≡ (within version_1 full (insert p l.pairs) >>= λ ps. fine (record { pairs = ps; mixed = l.mixed }))
unfolding enter
enter_pairs full p l h = rw (h, enter)

enter_mixed : (full : checks.Refusal) (p : paper.Pair) (l : pairs.Lists) → both_global p ≡ false
    → enter version_1 full p l ≡ (within version_1 full (insert p l.mixed) >>= λ ps. fine (record { pairs = l.pairs; mixed = ps }))
unfolding enter
enter_mixed full p l h = rw (h, enter)

module _ (w w' : List ℕ) (l : Lists) (p : paper.Pair) (full : checks.Refusal) (r : Option ℕ) (stand : ValidLists w l) where
  module _ (global : both_global p ≡ true) (ins : InsertResult version_1 w pairs_at l.pairs p w' r) where
    -- the mixed pairs, and all outside the lists, are as they were
    pairs_behind : (j : ℕ) → mixed_at ≤ j → byte w' j ≡ byte w j
    unfolding pairs_at mixed_at version_1
    pairs_behind j a = let f = ins.few in byte_above w' w (pairs_at + 6 * entries r l.pairs) j ins.behind (omega arith)

    mixed_kept : listed w' mixed_at l.mixed ≡ listed w mixed_at l.mixed
    mixed_kept = listed_same w' w mixed_at l.mixed (λ j a b. pairs_behind j a)

    pairs_above : drop sections_at w' ≡ drop sections_at w
    unfolding mixed_at sections_at
    pairs_above = drop_same w' w sections_at ins.long (λ j a. pairs_behind j (omega arith))

    entering_pairs : enter version_1 full p (lists_in l w) ≡ (inserted_said full w' pairs_at r >>= λ ps. fine (record { pairs = ps; mixed = listed w mixed_at l.mixed }))
    unfolding lists_in
    entering_pairs =
        enter_pairs full p (lists_in l w) global
        ∙ ap (λ (o : Checked (List paper.Pair)). o >>= λ ps. fine (record { pairs = ps; mixed = listed w mixed_at l.mixed })) (sym (ins.said full))

    pub pairs_entered : (n : ℕ) → r ≡ Some n → ListsResult w (enter version_1 full p (lists_in l w)) w' (Ok (record { pairs = n; mixed = l.mixed }))
    unfolding lists_in ◌>>=◌
    pairs_entered n e =
        let ins' : InsertResult version_1 w pairs_at l.pairs p w' (Some n) = rw e at ins in
        let is : listed w' pairs_at n ≡ insert p (listed w pairs_at l.pairs) = within_is full _ _ (ins'.said full) in
        let long : length w' ≡ size = ins.long ∙ stand.long in
        record {
          said = ap (λ (x : List paper.Pair). fine (record { pairs = listed w' pairs_at n; mixed = x })) mixed_kept ∙ sym (entering_pairs ∙ rw e);
          stand = record {
            long = long;
            few_pairs = ins'.few;
            few_mixed = stand.few_mixed;
            pairs_ascend = subst Ascending (sym is) (insert_ascending p _ stand.pairs_ascend);
            mixed_ascend = subst Ascending (sym mixed_kept) stand.mixed_ascend;
          };
          long = long;
          below = ins.before;
          above = pairs_above;
        }

    pub pairs_refused : (x : Refusal) → refusal_said x ≡ full → r ≡ None → ListsResult w (enter version_1 full p (lists_in l w)) w' (Err x)
    unfolding ◌>>=◌
    pairs_refused x q e = record {
      said = ap refused q ∙ sym (entering_pairs ∙ rw e);
      stand = tt;
      long = ins.long ∙ stand.long;
      below = ins.before;
      above = pairs_above;
    }

  module _ (some : both_global p ≡ false) (ins : InsertResult version_1 w mixed_at l.mixed p w' r) where
    pairs_kept : listed w' pairs_at l.pairs ≡ listed w pairs_at l.pairs
    unfolding pairs_at mixed_at version_1
    pairs_kept = let f = stand.few_pairs in listed_same w' w pairs_at l.pairs (λ j a b. byte_below w' w mixed_at j ins.before (omega arith))

    mixed_below : take pairs_at w' ≡ take pairs_at w
    unfolding pairs_at mixed_at
    mixed_below = take_same w' w pairs_at ins.long (λ j a. byte_below w' w mixed_at j ins.before (omega arith))

    mixed_above : drop sections_at w' ≡ drop sections_at w
    unfolding mixed_at sections_at version_1
    mixed_above =
        let f = ins.few in
        drop_same w' w sections_at ins.long (λ j a. byte_above w' w (mixed_at + 6 * entries r l.mixed) j ins.behind (omega arith))

    entering_mixed : enter version_1 full p (lists_in l w) ≡ (inserted_said full w' mixed_at r >>= λ ps. fine (record { pairs = listed w pairs_at l.pairs; mixed = ps }))
    unfolding lists_in
    entering_mixed =
        enter_mixed full p (lists_in l w) some
        ∙ ap (λ (o : Checked (List paper.Pair)). o >>= λ ps. fine (record { pairs = listed w pairs_at l.pairs; mixed = ps })) (sym (ins.said full))

    pub mixed_entered : (n : ℕ) → r ≡ Some n → ListsResult w (enter version_1 full p (lists_in l w)) w' (Ok (record { pairs = l.pairs; mixed = n }))
    unfolding lists_in ◌>>=◌
    mixed_entered n e =
        let ins' : InsertResult version_1 w mixed_at l.mixed p w' (Some n) = rw e at ins in
        let is : listed w' mixed_at n ≡ insert p (listed w mixed_at l.mixed) = within_is full _ _ (ins'.said full) in
        let long : length w' ≡ size = ins.long ∙ stand.long in
        record {
          said = ap (λ (x : List paper.Pair). fine (record { pairs = x; mixed = listed w' mixed_at n })) pairs_kept ∙ sym (entering_mixed ∙ rw e);
          stand = record {
            long = long;
            few_pairs = stand.few_pairs;
            few_mixed = ins'.few;
            pairs_ascend = subst Ascending (sym pairs_kept) stand.pairs_ascend;
            mixed_ascend = subst Ascending (sym is) (insert_ascending p _ stand.mixed_ascend);
          };
          long = long;
          below = mixed_below;
          above = mixed_above;
        }

    pub mixed_refused : (x : Refusal) → refusal_said x ≡ full → r ≡ None → ListsResult w (enter version_1 full p (lists_in l w)) w' (Err x)
    unfolding ◌>>=◌
    mixed_refused x q e = record {
      said = ap refused q ∙ sym (entering_mixed ∙ rw e);
      stand = tt;
      long = ins.long ∙ stand.long;
      below = mixed_below;
      above = mixed_above;
    }
