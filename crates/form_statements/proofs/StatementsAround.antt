-- The statements around a statement: its owner is the last of them and its depth is their number; who holds how many;
-- and extents that nest.
use Prim.Native.Nat.{ℕ, zero, suc, ◌+◌, ◌-◌, ◌≤◌, ◌<◌}
use native.Mathlib.Omega.{arith}
use mathlib.Core.Path.{◌≡◌, refl, sym, ◌∙◌, subst}
use mathlib.Core.List.{List, [], ◌∷◌, map}
use lib.Dec.{eqb, ltb}
use lib.ListN.{length}
use borrow.Author.Count.{below_more}
use borrow.Author.Tests.{eqb-true, eqb-false, ltb-true, ltb-false, lt-ltb, le-ltb, eq-eqb, ne_eqb}
use Rattle.definitions.specs.Bytes.{range}
use Rattle.definitions.specs.Module.{s_end, s_kind, statements}
use Rattle.definitions.specs.Checks.{count}
use Rattle.definitions.specs.Form.{inside, last_around, owner, owner_end, arms}
use Rattle.form_statements.specs.Extents.{around, held_before, extent_at, open_at, opened, one_more, holding}
use Rattle.form_records.proofs.CheckLists.{by_bool}
use Rattle.form_statements.proofs.RangeCounts.{adds, count_last, count_still}

-- one statement more: it is around t, or it isn't
pub around_more : (m : List ℕ) (f t n : ℕ) → t < s_end m f n → around m f t (suc n) ≡ n ∷ around m f t n
unfolding around inside
around_more m f t n h = rw (lt-ltb _ _ h)

pub around_still : (m : List ℕ) (f t n : ℕ) → s_end m f n ≤ t → around m f t (suc n) ≡ around m f t n
unfolding around inside
around_still m f t n h = rw (le-ltb _ _ h)

pub last_more : (m : List ℕ) (f t n : ℕ) → t < s_end m f n → last_around m f t (suc n) ≡ suc n
unfolding last_around inside
last_more m f t n h = rw (lt-ltb _ _ h)

pub last_still : (m : List ℕ) (f t n : ℕ) → s_end m f n ≤ t → last_around m f t (suc n) ≡ last_around m f t n
unfolding last_around inside
last_still m f t n h = rw (le-ltb _ _ h)

-- whether n is around t
pub by_end : {P : Type 0} (m : List ℕ) (f t n : ℕ) → (t < s_end m f n → P) → (s_end m f n ≤ t → P) → P
by_end m f t n a b = by_bool (ltb t (s_end m f n)) (λ h. a (ltb-true _ _ h)) (λ h. b (ltb-false _ _ h))

-- the last of a list of statements, counted from 1 as owners are
unfoldable pub top : List ℕ → ℕ
top [] = 0
top (s ∷ _) = suc s

pub last_is_top : (m : List ℕ) (f t n : ℕ) → last_around m f t n ≡ top (around m f t n)
unfolding top last_around around
last_is_top m f t zero = refl
last_is_top m f t (suc n) =
    by_end m f t n (λ h. rw (last_more m f t n h, around_more m f t n h)) (λ h. rw (last_still m f t n h, around_still m f t n h) (last_is_top m f t n))

pub depth_is_length : (m : List ℕ) (f t n : ℕ) → count (inside m f t) (range 0 n) ≡ length (around m f t n)
unfolding inside adds around count range
depth_is_length m f t zero = refl
depth_is_length m f t (suc n) =
    let z : 0 + n ≡ n = omega arith in
    by_end m f t n
    (λ h. rw (around_more m f t n h, count_last (inside m f t) 0 n, z, lt-ltb _ _ h) (omega (arith, depth_is_length m f t n)))
    (λ h. rw (around_still m f t n h, count_last (inside m f t) 0 n, z, le-ltb _ _ h) (omega (arith, depth_is_length m f t n)))

-- an owner holds its statement, and stands before it
pub last_holds : (m : List ℕ) (f t n s : ℕ) → last_around m f t n ≡ suc s → (s < n) × (t < s_end m f s)
unfolding last_around
last_holds m f t zero s e = absurd (omega arith)
last_holds m f t (suc n) s e =
    by_end m f t n
    (λ h.
    let q : suc n ≡ suc s = sym (last_more m f t n h) ∙ e in
    let p : n ≡ s = omega arith in
    (omega arith, subst (λ (k : ℕ). t < s_end m f k) p h))
    (λ h. let r = last_holds m f t n s (sym (last_still m f t n h) ∙ e) in (omega arith, r.1))

-- the owner is at or past any that holds t
pub last_past : (m : List ℕ) (f t n s : ℕ) → s < n → t < s_end m f s → (o : ℕ) × (last_around m f t n ≡ suc o) × (s ≤ o)
unfolding last_around
last_past m f t zero s h k = absurd (omega arith)
last_past m f t (suc n) s h k =
    by_end m f t n
    (λ a. (n, last_more m f t n a, omega arith))
    (λ a.
    let ne : s ≡ n → ⊥ = λ e. (let b : t < s_end m f n = rw e at k in omega arith) in
    let r = last_past m f t n s (omega arith) k in
    (r.0, last_still m f t n a ∙ r.1, r.2))

-- The statements before t have passed: each ends past itself and within its owner
pub record ValidNesting (m : List ℕ) (f t : ℕ) : Type 0 where
  pub after : (u : ℕ) → u < t → u < s_end m f u
  pub within : (u : ℕ) → u < t → s_end m f u ≤ owner_end m f u

pub nested_none : (m : List ℕ) (f : ℕ) → ValidNesting m f 0
nested_none m f = record { after = λ u h. absurd (omega arith); within = λ u h. absurd (omega arith) }

pub nested_more : (m : List ℕ) (f t : ℕ) → ValidNesting m f t → t < s_end m f t → s_end m f t ≤ owner_end m f t → ValidNesting m f (suc t)
nested_more m f t n a b = record {
  after = λ u h. below_more (λ k. k < s_end m f k) t n.after a u (omega arith);
  within = λ u h. below_more (λ k. s_end m f k ≤ owner_end m f k) t n.within b u (omega arith);
}

-- then each ends within every extent that holds it (by strong induction, through a bound)
nested_below : (m : List ℕ) (f t n u : ℕ) → ValidNesting m f t → u < n → u < t → (s : ℕ) → s < u → u < s_end m f s → s_end m f u ≤ s_end m f s
unfolding owner owner_end
nested_below m f t zero u k h hu s a b = absurd (omega arith)
nested_below m f t (suc n) u k h hu s a b =
    let r = last_past m f u u s a b in
    let w = last_holds m f u u r.0 r.1 in
    let o_end : s_end m f u ≤ s_end m f r.0 = rw (r.1, owner_end) at (k.within u hu) in
    let before = w.0 in
    let past = r.2 in
    by_bool (eqb s r.0)
    (λ e. subst (λ v. s_end m f u ≤ s_end m f v) (sym (eqb-true s r.0 e)) o_end)
    (λ e.
    let ne : s ≡ r.0 → ⊥ = eqb-false s r.0 e in
    let ih = nested_below m f t n r.0 k (omega arith) (omega arith) s (omega arith) (omega arith) in
    omega arith)

pub ends_within : (m : List ℕ) (f t u s : ℕ) → ValidNesting m f t → u < t → s < u → u < s_end m f s → s_end m f u ≤ s_end m f s
ends_within m f t u s k hu a b = nested_below m f t (suc u) u k (omega arith) hu s a b

-- and within the table
ends_below : (m : List ℕ) (f t n u : ℕ) → ValidNesting m f t → u < n → u < t → s_end m f u ≤ statements m f
unfolding owner owner_end
ends_below m f t zero u k h hu = absurd (omega arith)
ends_below m f t (suc n) u k h hu = go (last_around m f u u) refl (λ o q r. ends_below m f t n o k q r)
  where
    go : (w : ℕ) → last_around m f u u ≡ w → ((o : ℕ) → o < n → o < t → s_end m f o ≤ statements m f) → s_end m f u ≤ statements m f
    go zero e ih = rw (e, owner_end) at (k.within u hu)
    go (suc o) e ih =
        let b = (last_holds m f u u o e).0 in
        let in_o : s_end m f u ≤ s_end m f o = rw (e, owner_end) at (k.within u hu) in
        let c = ih o (omega arith) (omega arith) in
        omega arith

pub ends_in_table : (m : List ℕ) (f t u : ℕ) → ValidNesting m f t → u < t → s_end m f u ≤ statements m f
ends_in_table m f t u k hu = ends_below m f t (suc u) u k (omega arith) hu

-- Who holds how many: one statement more is held by its owner and by no other
held_more : (m : List ℕ) (f t s : ℕ) → held_before m f (suc t) s ≡ held_before m f t s + adds (eqb (owner m f t) (suc s))
unfolding held_before
held_more m f t s = let z : 0 + t ≡ t = omega arith in subst (λ (k : ℕ). held_before m f (suc t) s ≡ held_before m f t s + adds (eqb (owner m f k) (suc s))) z (count_last (λ u. eqb (owner m f u) (suc s)) 0 t)

held_owner : (m : List ℕ) (f t s : ℕ) → owner m f t ≡ suc s → held_before m f (suc t) s ≡ suc (held_before m f t s)
unfolding adds
held_owner m f t s e = omega (arith, rw (eq-eqb (owner m f t) (suc s) e, adds) at (held_more m f t s))

held_other : (m : List ℕ) (f t s : ℕ) → (owner m f t ≡ suc s → ⊥) → held_before m f (suc t) s ≡ held_before m f t s
unfolding adds
held_other m f t s e = omega (arith, rw (ne_eqb (owner m f t) (suc s) e, adds) at (held_more m f t s))

-- a statement holds none of those before it
pub held_none : (m : List ℕ) (f t : ℕ) → held_before m f (suc t) t ≡ 0
unfolding held_before count range owner
held_none m f t =
    let z : 0 + suc t ≡ suc t = omega arith in
    subst (λ (n : ℕ). count (λ u. eqb (owner m f u) (suc t)) (range 0 n) ≡ 0) z
    (count_still (λ u. eqb (owner m f u) (suc t)) 0 (suc t) (λ u a b. ne_eqb (owner m f u) (suc t) (λ e. (let r = (last_holds m f u u t e).0 in omega arith))))

-- what is closed at t has all that it will hold
pub held_all : (m : List ℕ) (f t s : ℕ) → t ≤ statements m f → s_end m f s ≤ t → held_before m f t s ≡ arms m f s
unfolding held_before arms owner
held_all m f t s h k =
    let e : t + (statements m f - t) ≡ statements m f = omega arith in
    sym (subst (λ (n : ℕ). count (λ u. eqb (owner m f u) (suc s)) (range 0 n) ≡ count (λ u. eqb (owner m f u) (suc s)) (range 0 t)) e
    (count_still (λ u. eqb (owner m f u) (suc s)) t (statements m f - t)
    (λ u a b. ne_eqb (owner m f u) (suc s) (λ q. (let r = (last_holds m f u u s q).1 in omega arith)))))

-- the extents around t, with t counted: the last of them holds one more
tail_same : (m : List ℕ) (f t n : ℕ) → ((s : ℕ) → s < n → owner m f t ≡ suc s → ⊥) → map (extent_at m f t) (around m f t n) ≡ map (extent_at m f (suc t)) (around m f t n)
unfolding around extent_at
tail_same m f t zero h = refl
tail_same m f t (suc n) h =
    let ih = tail_same m f t n (λ s a. h s (omega arith)) in
    by_end m f t n
    (λ a. rw (around_more m f t n a, held_other m f t n (h n (omega arith)), ih))
    (λ a. rw (around_still m f t n a) ih)

pub holding_around : (m : List ℕ) (f t n : ℕ) → owner m f t ≡ last_around m f t n → holding (map (extent_at m f t) (around m f t n)) ≡ map (extent_at m f (suc t)) (around m f t n)
unfolding around extent_at holding
holding_around m f t zero e = refl
holding_around m f t (suc n) e =
    by_end m f t n
    (λ a.
    let o : owner m f t ≡ suc n = e ∙ last_more m f t n a in
    let ih = tail_same m f t n (λ s b q. (let w : suc n ≡ suc s = sym o ∙ q in omega arith)) in
    rw (around_more m f t n a, one_more, held_owner m f t n o, ih))
    (λ a. rw (around_still m f t n a) (holding_around m f t n (e ∙ last_still m f t n a)))

-- so t and what is around it, as it stands once t is counted
pub opens : (m : List ℕ) (f t : ℕ) → t < s_end m f t
    → opened t (s_kind m f t) (s_end m f t) ∷ holding (open_at m f t) ≡ map (extent_at m f (suc t)) (around m f t (suc t))
unfolding open_at extent_at owner
opens m f t h = rw (around_more m f t t h, holding_around m f t t refl, held_none m f t)
