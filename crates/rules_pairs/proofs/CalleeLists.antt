-- Steps over the lists one after another: a pair that enters once its ends are there, a loop over the records of a
-- callee's list, and a Call.
use Prim.Native.Nat.{ℕ, zero, suc, ◌+◌, ◌*◌, ◌-◌, ◌<◌, ◌≤◌}
use native.Mathlib.Omega.{arith}
use mathlib.Core.Path.{◌≡◌, refl, sym, ap, ◌∙◌, subst}
use mathlib.Core.List.{List}
use Rattle.std.specs.Prelude.{Result, Ok, Err}
use lib.ListN.{length, take, drop}
use Rattle.definitions.specs.Limits.{version_1}
use Rattle.definitions.specs.Checks.{Checked, fine, refused, refusal, ◌>>=◌, each}
use Rattle.definitions.specs.Ends as paper
use Rattle.definitions.specs.Ends.{end_or_7, replaced}
use Rattle.definitions.specs.Pairs as pairs
use Rattle.definitions.specs.Pairs.{enter, sample, replace, replacing_place, take_pair, take_pairs}
use Rattle.definitions.specs.Report.{records, r_pair, r_mixed, r_pair_count, r_mixed_count, r_pairs_at, r_mixed_at, r_entries_at, r_lists}
use Rattle.definitions.proofs.Runs.{bind_same, each_append}
use Rattle.memory.specs.Layout.{pairs_at, sections_at}
use Rattle.report.specs.Sizes.{section_header_size}
use Rattle.vocabulary.specs.declared.refusal.Refusal.{Refusal}
use Rattle.vocabulary.specs.Said.{refusal_said}
use Rattle.rules_pairs.specs.Lists.{lists_in, ValidLists, ListsResult}
use Rattle.rules_pairs.specs.Tracing.{ValidCallee, ValidCalleePairs, ValidCalleeMixed}
use Rattle.module.specs.declared.Sheet.{Sheet}
use Rattle.rules_pairs.specs.declared.lists.Lists.{Lists}

-- a step that was done leaves lists that stand
pub stands_then : (w w' : List ℕ) (o : Checked pairs.Lists) (r : Result Lists Refusal) (l : Lists) → ListsResult w o w' r → r ≡ Ok l → ValidLists w' l
stands_then w w' o r l a e = (rw e at a).stand

-- a step that was refused is the end of all; after one that was done the next goes on
pub after_stop : (w w' : List ℕ) (o : Checked pairs.Lists) (k : pairs.Lists → Checked pairs.Lists) (r : Result Lists Refusal) (x : Refusal)
    → ListsResult w o w' r → r ≡ Err x → ListsResult w (o >>= k) w' (Err x)
unfolding ◌>>=◌
after_stop w w' o k r x a e =
    record { said = rw (← a.said, e); stand = tt; long = a.long; below = a.below; above = a.above }

pub after_go : (w w₁ w₂ : List ℕ) (o : Checked pairs.Lists) (k : pairs.Lists → Checked pairs.Lists) (r₁ : Result Lists Refusal) (l : Lists) (r₂ : Result Lists Refusal)
    → ListsResult w o w₁ r₁ → r₁ ≡ Ok l → ListsResult w₁ (k (lists_in l w₁)) w₂ r₂ → ListsResult w (o >>= k) w₂ r₂
unfolding ◌>>=◌
after_go w w₁ w₂ o k r₁ l r₂ a e b = record {
  said = b.said ∙ rw (← a.said, e);
  stand = b.stand;
  long = b.long;
  below = b.below ∙ a.below;
  above = b.above ∙ a.above;
}

-- a pair enters once both ends are there: the first refusal, or the pair
module _ (w : List ℕ) (a b : Checked paper.End) (k : paper.End → paper.End → Checked pairs.Lists) where
  pub image_refused : (l : Lists) (x : Refusal) → ValidLists w l → refused (refusal_said x) ≡ a → ListsResult w (a >>= λ i. (b >>= λ s. k i s)) w (Err x)
  unfolding ◌>>=◌
  image_refused l x stand e = record { said = rw (← e); stand = tt; long = stand.long; below = refl; above = refl }

  pub sampler_refused : (l : Lists) (i : paper.End) (x : Refusal) → ValidLists w l → fine i ≡ a → refused (refusal_said x) ≡ b → ListsResult w (a >>= λ i. (b >>= λ s. k i s)) w (Err x)
  unfolding ◌>>=◌
  sampler_refused l i x stand e q = record { said = rw (← e, ← q); stand = tt; long = stand.long; below = refl; above = refl }

  pub both_enter : (w' : List ℕ) (i s : paper.End) (r : Result Lists Refusal) → fine i ≡ a → fine s ≡ b → ListsResult w (k i s) w' r → ListsResult w (a >>= λ i. (b >>= λ s. k i s)) w' r
  unfolding ◌>>=◌
  both_enter w' i s r e q h = rw (← e, ← q) h

-- A loop over the n records of a list, one step for each: i are done, and what is left gives the outcome of all
module _ (step : paper.Pair → pairs.Lists → Checked pairs.Lists) (one : List ℕ → ℕ → paper.Pair) (wide : ℕ) (b : List ℕ) (at n : ℕ) (w₀ : List ℕ) (l₀ : Lists) where
  pub record RecordLoop (w : List ℕ) (l : Lists) (i : ℕ) : Type 0 where
    pub within : i ≤ n
    pub stand : ValidLists w l
    pub below : take pairs_at w ≡ take pairs_at w₀
    pub above : drop sections_at w ≡ drop sections_at w₀
    pub left : each step (records one wide b (at + wide * i) (n - i)) (lists_in l w) ≡ each step (records one wide b at n) (lists_in l₀ w₀)

  pub turn_start : ValidLists w₀ l₀ → RecordLoop w₀ l₀ 0
  turn_start stand =
      let p : at + wide * 0 ≡ at = omega arith in
      let q : n - 0 ≡ n = omega arith in
      record { within = omega arith; stand = stand; below = refl; above = refl; left = rw (p, q) }

  -- the next record and the rest
  next : (i : ℕ) (l : pairs.Lists) → i < n
      → each step (records one wide b (at + wide * i) (n - i)) l
      ≡ (step (one b (at + wide * i)) l >>= λ l'. each step (records one wide b (at + wide * (i + 1)) (n - (i + 1))) l')
  unfolding each records
  next i l lt =
      let p : n - i ≡ suc (n - (i + 1)) = omega arith in
      let q : at + wide * i + wide ≡ at + wide * (i + 1) = omega arith in
      rw (p, q)

  module _ (w w' : List ℕ) (l : Lists) (i : ℕ) (p : paper.Pair) (r : Result Lists Refusal) (v : RecordLoop w l i) (lt : i < n) (read : p ≡ one b (at + wide * i)) (a : ListsResult w (step p (lists_in l w)) w' r) where
    left_here : (step p (lists_in l w) >>= λ l'. each step (records one wide b (at + wide * (i + 1)) (n - (i + 1))) l') ≡ each step (records one wide b at n) (lists_in l₀ w₀)
    left_here = ap (λ (x : paper.Pair). step x (lists_in l w) >>= λ l'. each step (records one wide b (at + wide * (i + 1)) (n - (i + 1))) l') read ∙ sym (next i (lists_in l w) lt) ∙ v.left

    pub turn_again : (l' : Lists) → r ≡ Ok l' → RecordLoop w' l' (i + 1)
    unfolding ◌>>=◌
    turn_again l' e = record {
      within = omega arith;
      stand = stands_then w w' (step p (lists_in l w)) r l' a e;
      below = a.below ∙ v.below;
      above = a.above ∙ v.above;
      left = rw (← a.said, e) at left_here;
    }

    pub turn_stop : (x : Refusal) → r ≡ Err x → ListsResult w₀ (each step (records one wide b at n) (lists_in l₀ w₀)) w' (Err x)
    turn_stop x e =
        let s = after_stop w w' (step p (lists_in l w)) (λ l'. each step (records one wide b (at + wide * (i + 1)) (n - (i + 1))) l') r x a e in
        record { said = s.said ∙ left_here; stand = tt; long = a.long; below = a.below ∙ v.below; above = a.above ∙ v.above }

  pub turn_done : (w : List ℕ) (l : Lists) (i : ℕ) → RecordLoop w l i → n ≤ i → ListsResult w₀ (each step (records one wide b at n) (lists_in l₀ w₀)) w (Ok l)
  unfolding each records
  turn_done w l i v ge =
      let q : n - i ≡ 0 = omega arith in
      record { said = rw q at v.left; stand = v.stand; long = v.stand.long; below = v.below; above = v.above }

-- a callee's pair of globals enters as it is
globals_enter : (m : List ℕ) (f t : ℕ) (b : List ℕ) (p : ℕ) (l : pairs.Lists) → take_pair version_1 m f t (r_pair b p) l ≡ enter version_1 (refusal 12 f t) (r_pair b p) l
unfolding take_pair replace replaced replacing_place end_or_7 r_pair ◌>>=◌
globals_enter m f t b p l = refl

all_globals_enter : (m : List ℕ) (f t : ℕ) (b : List ℕ) (p n : ℕ) (l : pairs.Lists)
    → each (take_pair version_1 m f t) (records r_pair 4 b p n) l ≡ each (enter version_1 (refusal 12 f t)) (records r_pair 4 b p n) l
unfolding each records
all_globals_enter m f t b p zero l = refl
all_globals_enter m f t b p (suc n) l =
    ap (λ (o : Checked pairs.Lists). o >>= λ l'. each (take_pair version_1 m f t) (records r_pair 4 b (p + 4) n) l') (globals_enter m f t b p l)
    ∙ bind_same (enter version_1 (refusal 12 f t) (r_pair b p) l) (λ l'. all_globals_enter m f t b (p + 4) n l')

-- 4.6 the callee's pairs, then its mixed pairs
pub call_is : (m : List ℕ) (f t g : ℕ) (b : List ℕ) (at : ℕ) (l : pairs.Lists)
    → take_pairs version_1 m f t (r_lists g b at) l
    ≡ (each (enter version_1 (refusal 12 f t)) (records r_pair 4 b (r_pairs_at g b at) (r_pair_count b at)) l
    >>= λ l'. each (take_pair version_1 m f t) (records r_mixed 6 b (r_mixed_at g b at) (r_mixed_count b at)) l')
unfolding take_pairs r_lists
call_is m f t g b at l =
    each_append (take_pair version_1 m f t) (records r_pair 4 b (r_pairs_at g b at) (r_pair_count b at)) (records r_mixed 6 b (r_mixed_at g b at) (r_mixed_count b at)) l
    ∙ ap (λ (o : Checked pairs.Lists). o >>= λ l'. each (take_pair version_1 m f t) (records r_mixed 6 b (r_mixed_at g b at) (r_mixed_count b at)) l')
    (all_globals_enter m f t b (r_pairs_at g b at) (r_pair_count b at) l)

-- the callee's section, as the code finds its parts: n pairs from p on, k mixed pairs from q on
module _ (m : List ℕ) (s : Sheet) (t g : ℕ) (b : List ℕ) (at : ℕ) (callee : ValidCallee m s t g b at) where
  pub header_there : at + section_header_size + g ≤ length b
  unfolding r_entries_at r_mixed_at r_pairs_at
  header_there = omega (arith, callee.fits)

  pub pairs_there : r_mixed_at g b at ≤ length b
  unfolding r_entries_at
  pairs_there = omega (arith, callee.fits)

  module _ (n p : ℕ) (counted : n ≡ r_pair_count b at) (begin : p ≡ r_pairs_at g b at) where
    pub callee_pairs : n < 65536 → ValidCalleePairs b p n
    unfolding r_mixed_at
    callee_pairs few = record { fits = omega (arith, pairs_there); few = few }

    -- a refusal among the pairs is the end
    pub call_stop : (w w' : List ℕ) (l : Lists) (r : Result Lists Refusal) (y : Refusal)
        → ListsResult w (each (enter version_1 (refusal 12 s.function t)) (records r_pair 4 b p n) (lists_in l w)) w' r → r ≡ Err y
        → ListsResult w (take_pairs version_1 m s.function t (r_lists g b at) (lists_in l w)) w' (Err y)
    call_stop w w' l r y a e =
        subst (λ o. ListsResult w o w' (Err y)) (sym (call_is m s.function t g b at (lists_in l w)))
        (after_stop w w' _ _ r y (rw (counted, begin) at a) e)

    module _ (k q : ℕ) (mixed_counted : k ≡ r_mixed_count b at) (mixed_begin : q ≡ r_mixed_at g b at) where
      pub callee_mixed : ValidCalleeMixed m s t b q k
      unfolding r_entries_at
      callee_mixed = record {
        fits = omega (arith, callee.fits);
        below = λ i lt. rw (← mixed_begin) at (callee.below i (omega arith));
      }

      -- the pairs, and then the mixed pairs
      pub call_go : (w w₁ w₂ : List ℕ) (l l₁ : Lists) (r₁ r₂ : Result Lists Refusal)
          → ListsResult w (each (enter version_1 (refusal 12 s.function t)) (records r_pair 4 b p n) (lists_in l w)) w₁ r₁ → r₁ ≡ Ok l₁
          → ListsResult w₁ (each (take_pair version_1 m s.function t) (records r_mixed 6 b q k) (lists_in l₁ w₁)) w₂ r₂
          → ListsResult w (take_pairs version_1 m s.function t (r_lists g b at) (lists_in l w)) w₂ r₂
      call_go w w₁ w₂ l l₁ r₁ r₂ a e c =
          subst (λ o. ListsResult w o w₂ r₂) (sym (call_is m s.function t g b at (lists_in l w)))
          (after_go w w₁ w₂
          (each (enter version_1 (refusal 12 s.function t)) (records r_pair 4 b (r_pairs_at g b at) (r_pair_count b at)) (lists_in l w))
          (λ l'. each (take_pair version_1 m s.function t) (records r_mixed 6 b (r_mixed_at g b at) (r_mixed_count b at)) l')
          r₁ l₁ r₂ (rw (counted, begin) at a) e (rw (mixed_counted, mixed_begin) at c))
