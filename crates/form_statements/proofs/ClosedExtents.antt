-- Closing what ends at a place: popping from the last extent on is enough, since extents nest; and the first
-- miscounted statement is kept.
use Prim.Native.Nat.{ℕ, zero, suc, ◌≤◌, ◌<◌}
use native.Mathlib.Omega.{arith}
use mathlib.Core.Path.{◌≡◌, refl, sym, subst}
use mathlib.Core.List.{List, [], ◌∷◌, map}
use mathlib.Core.Bool.{true, false}
use lib.Dec.{eqb, leb, ltb}
use borrow.Author.Tests.{eqb-true, eqb-false, ltb-true, ltb-false, le-leb, lt-leb}
use Rattle.std.specs.Prelude.{Option, Some, None}
use Rattle.definitions.specs.Module.{s_end, s_kind, statements}
use Rattle.definitions.specs.Form.{arms}
use Rattle.form_statements.specs.Extents.{around, held_before, extent_at, open_at, opened, holding, miscounts, miscounted, IsBefore, first_of, judged, closing}
use Rattle.form_records.proofs.CheckLists.{by_bool}
use Rattle.form_statements.proofs.StatementsAround.{around_more, around_still, by_end, ValidNesting, ends_within, ends_in_table, held_all, opens}

-- `bad` is the first miscounted statement of those that are closed at t, if there is one
pub record FirstMiscounted (m : List ℕ) (f t : ℕ) (bad : Option ℕ) : Type 0 where
  pub before : (s : ℕ) → s < t → IsBefore s bad → s_end m f s ≤ t → miscounted m f s ≡ false
  pub found : (b : ℕ) → bad ≡ Some b → (b < statements m f) × (miscounted m f b ≡ true)

pub least_none : (m : List ℕ) (f : ℕ) → FirstMiscounted m f 0 None
least_none m f = record { before = λ s h. absurd (omega arith); found = λ b e. cc }

-- one extent is closed: what is known of `bad` then
record JudgedResult (m : List ℕ) (f s : ℕ) (bad next : Option ℕ) : Type 0 where
  fewer : (u : ℕ) → IsBefore u next → IsBefore u bad
  passes : IsBefore s next → miscounted m f s ≡ false
  found : (b : ℕ) → next ≡ Some b → (b < statements m f) × (miscounted m f b ≡ true)

judges : (m : List ℕ) (f t s : ℕ) (bad : Option ℕ) → t ≤ statements m f → s < statements m f → s_end m f s ≤ t
    → ((b : ℕ) → bad ≡ Some b → (b < statements m f) × (miscounted m f b ≡ true))
    → JudgedResult m f s bad (judged (extent_at m f t s) bad)
unfolding judged miscounted extent_at first_of
judges m f t s bad h lt k found =
    let all : held_before m f t s ≡ arms m f s = held_all m f t s h k in
    rw all (by_bool (miscounts (s_kind m f s) (arms m f s))
    (λ p. rw p (first p bad found))
    (λ p. rw p (record { fewer = λ u x. x; passes = λ x. p; found = found })))
  where
    here : miscounts (s_kind m f s) (arms m f s) ≡ true → (b : ℕ) → Some s ≡ Some b → (b < statements m f) × (miscounted m f b ≡ true)
    here p b e = let q : s ≡ b = cc in (omega arith, subst (λ (x : ℕ). miscounts (s_kind m f x) (arms m f x) ≡ true) q p)

    first : miscounts (s_kind m f s) (arms m f s) ≡ true → (bad : Option ℕ) → ((b : ℕ) → bad ≡ Some b → (b < statements m f) × (miscounted m f b ≡ true))
        → JudgedResult m f s bad (first_of s bad)
    first p None found = record { fewer = λ u x. tt; passes = λ x. absurd (omega arith); found = here p }
    first p (Some b) found =
        by_bool (ltb s b)
        (λ q. let less = ltb-true s b q in rw q (record { fewer = λ u x. omega arith; passes = λ x. absurd (omega arith); found = here p }))
        (λ q. let less = ltb-false s b q in rw q (record { fewer = λ u x. x; passes = λ x. absurd (omega arith); found = found }))

-- the same are around t and around t + 1, below a statement that is around both
same_around : (m : List ℕ) (f t n k : ℕ) → ValidNesting m f (suc t) → k ≤ t → n ≤ k → suc t < s_end m f k → around m f t n ≡ around m f (suc t) n
unfolding around
same_around m f t zero k w a b c = refl
same_around m f t (suc n) k w a b c =
    let ih = same_around m f t n k w a (omega arith) c in
    by_end m f t n
    (λ h.
    let e = ends_within m f (suc t) k n w (omega arith) (omega arith) (omega arith) in
    let g : suc t < s_end m f n = omega arith in
    rw (around_more m f t n h, around_more m f (suc t) n g, ih))
    (λ h.
    let g : s_end m f n ≤ suc t = omega arith in
    rw (around_still m f t n h, around_still m f (suc t) n g) ih)

-- what closing at t + 1 leaves of the extents around t below n
pub record ClosesResult (m : List ℕ) (f t n : ℕ) (bad : Option ℕ) : Type 0 where
  pub next : Option ℕ
  pub is : closing (suc t) (map (extent_at m f (suc t)) (around m f t n)) bad
      ≡ record { extents = map (extent_at m f (suc t)) (around m f (suc t) n); bad = next }
  pub least : FirstMiscounted m f (suc t) next

closes : (m : List ℕ) (f t n : ℕ) (bad : Option ℕ) → ValidNesting m f (suc t) → suc t ≤ statements m f → n ≤ suc t
    → ((s : ℕ) → s < suc t → IsBefore s bad → s_end m f s ≤ t → miscounted m f s ≡ false)
    → ((s : ℕ) → n ≤ s → s < suc t → IsBefore s bad → s_end m f s ≤ suc t → miscounted m f s ≡ false)
    → ((b : ℕ) → bad ≡ Some b → (b < statements m f) × (miscounted m f b ≡ true))
    → ClosesResult m f t n bad
unfolding around closing extent_at
closes m f t zero bad w small le old above found =
    record { next = bad; is = refl; least = record { before = λ s a b c. above s (omega arith) a b c; found = found } }
closes m f t (suc k) bad w small le old above found =
    by_end m f t k
    (λ h.
    by_end m f (suc t) k
    (λ g. record {
      next = bad;
      is = rw (around_more m f t k h, around_more m f (suc t) k g) (
          let here : leb (extent_at m f (suc t) k).end (suc t) ≡ false = lt-leb _ _ g in
          rw (here, same_around m f t k k w (omega arith) (omega arith) g));
      least = record {
        found = found;
        before = λ s a b c.
            by_bool (ltb s (suc k))
            (λ q.
            let lt = ltb-true s (suc k) q in
            by_end m f t s
            (λ x.
            let ne : s ≡ k → ⊥ = λ e. (let y : s_end m f k ≤ suc t = rw e at c in omega arith) in
            let e = ends_within m f (suc t) k s w (omega arith) (omega arith) (omega arith) in
            absurd (omega arith))
            (λ x. old s a b x))
            (λ q. above s (ltb-false s (suc k) q) a b c);
      };
    })
    (λ g.
    let j = judges m f (suc t) k bad small (omega arith) g found in
    let r = closes m f t k (judged (extent_at m f (suc t) k) bad) w small (omega arith)
    (λ s a b c. old s a (j.fewer s b) c)
    (λ s a b c d.
    by_bool (eqb s k)
    (λ e. subst (λ (x : ℕ). miscounted m f x ≡ false) (sym (eqb-true s k e)) (j.passes (subst (λ (x : ℕ). IsBefore x (judged (extent_at m f (suc t) k) bad)) (eqb-true s k e) c)))
    (λ e. let ne : s ≡ k → ⊥ = eqb-false s k e in above s (omega arith) b (j.fewer s c) d))
    j.found in
    record {
      next = r.next;
      is = rw (around_more m f t k h, around_still m f (suc t) k g) (
          let here : leb (extent_at m f (suc t) k).end (suc t) ≡ true = le-leb _ _ g in
          rw here r.is);
      least = r.least;
    }))
    (λ h.
    let r = closes m f t k bad w small (omega arith) old
    (λ s a b c d.
    by_bool (eqb s k)
    (λ e. old s b c (subst (λ (x : ℕ). s_end m f x ≤ t) (sym (eqb-true s k e)) h))
    (λ e. let ne : s ≡ k → ⊥ = eqb-false s k e in above s (omega arith) b c d))
    found in
    let g : s_end m f k ≤ suc t = omega arith in
    record { next = r.next; is = rw (around_still m f t k h, around_still m f (suc t) k g) r.is; least = r.least })

-- One statement more. What was open at t holds one more, t is opened, and what ends at t + 1 is closed: then what is
-- open is what is around t + 1, and the first miscounted statement of what is closed is known.
pub record TurnResult (m : List ℕ) (f t : ℕ) (bad : Option ℕ) : Type 0 where
  pub next : Option ℕ
  pub is : closing (suc t) (opened t (s_kind m f t) (s_end m f t) ∷ holding (open_at m f t)) bad ≡ record { extents = open_at m f (suc t); bad = next }
  pub least : FirstMiscounted m f (suc t) next

pub turned : (m : List ℕ) (f t : ℕ) (bad : Option ℕ) → ValidNesting m f (suc t) → t < statements m f → FirstMiscounted m f t bad → TurnResult m f t bad
unfolding open_at
turned m f t bad w h l =
    let after = w.after t (omega arith) in
    let r = closes m f t (suc t) bad w h (omega arith)
    (λ s a b c. by_bool (eqb s t)
    (λ e. absurd (let y : s_end m f t ≤ t = subst (λ (x : ℕ). s_end m f x ≤ t) (eqb-true s t e) c in omega arith))
    (λ e. let ne : s ≡ t → ⊥ = eqb-false s t e in l.before s (omega arith) b c))
    (λ s a b c d. absurd (omega arith))
    l.found in
    record { next = r.next; is = rw (opens m f t after) r.is; least = r.least }

-- nothing is open past the last statement
pub none_open : (m : List ℕ) (f n : ℕ) → ValidNesting m f (statements m f) → n ≤ statements m f → around m f (statements m f) n ≡ []
unfolding around
none_open m f zero w h = refl
none_open m f (suc n) w h = rw (around_still m f (statements m f) n (ends_in_table m f (statements m f) n w (omega arith))) (none_open m f n w (omega arith))
