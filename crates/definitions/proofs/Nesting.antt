-- What the form checks give of extents: each ends past its record, within every extent around it, and within the table; a Loop's holds
-- something.
use Prim.Native.Nat.{ℕ, zero, suc, ◌+◌, ◌≤◌, ◌<◌}
use native.Mathlib.Omega.{arith}
use mathlib.Core.List.{List, [], ◌∷◌}
use mathlib.Core.Path.{◌≡◌, refl, sym, subst}
use mathlib.Core.Bool.{Bool, true, false, ◌&&◌, ◌||◌, true≢false}
use lib.Dec.{eqb, ltb, lit<}
use borrow.Author.Tests.{eqb-true, eqb-false, leb-false, ltb-true, ltb-false, not-false}
use Rattle.definitions.specs.Bytes.{range}
use Rattle.definitions.specs.Limits.{Limits}
use Rattle.definitions.specs.Module.{statements, s_kind, s_end}
use Rattle.definitions.specs.Checks.{◌⇒◌, count}
use Rattle.definitions.specs.Form.{inside, last_around, owner, owner_end, arms, arms_form}
use Rattle.definitions.proofs.Passed.{passes}
use Rattle.definitions.proofs.Formed.{SheetFormed}

-- the last record before n that u is inside of is at or past any that it is inside of
last_spec : (m : List ℕ) (f u n s : ℕ) → s < n → u < s_end m f s
    → (o : ℕ) × (last_around m f u n ≡ suc o) × (s ≤ o) × (o < n) × (u < s_end m f o)
unfolding last_around inside
last_spec m f u zero s h k = absurd (omega arith)
last_spec m f u (suc n) s h k = go (ltb u (s_end m f n)) refl (λ q. last_spec m f u n s q k)
  where
    Goal : Type 0
    Goal = (o : ℕ) × (last_around m f u (suc n) ≡ suc o) × (s ≤ o) × (o < suc n) × (u < s_end m f o)

    go : (b : Bool) → ltb u (s_end m f n) ≡ b → (s < n → (o : ℕ) × (last_around m f u n ≡ suc o) × (s ≤ o) × (o < n) × (u < s_end m f o)) → Goal
    go true w ih = (n, rw (w, last_around), omega arith, omega arith, ltb-true _ _ w)
    go false w ih =
        let ne : s ≡ n → ⊥ = λ e. (let a = ltb-false u (s_end m f n) w in let b : u < s_end m f n = rw e at k in omega arith) in
        let r = ih (omega arith) in
        (r.0, rw (w, last_around) r.1, r.2, (let x = r.3 in omega arith), r.4)

last_below : (m : List ℕ) (f u n o : ℕ) → last_around m f u n ≡ suc o → o < n
unfolding last_around inside
last_below m f u zero o e = absurd (omega arith)
last_below m f u (suc n) o e = go (ltb u (s_end m f n)) refl (λ q. last_below m f u n o q)
  where
    go : (b : Bool) → ltb u (s_end m f n) ≡ b → (last_around m f u n ≡ suc o → o < n) → o < suc n
    go true w ih = let x : suc n ≡ suc o = rw (w, last_around) at e in omega arith
    go false w ih = let x = ih (rw (w, last_around) at e) in omega arith

last_inside : (m : List ℕ) (f u n o : ℕ) → last_around m f u n ≡ suc o → u < s_end m f o
unfolding last_around inside
last_inside m f u zero o e = absurd (omega arith)
last_inside m f u (suc n) o e = go (ltb u (s_end m f n)) refl (λ q. last_inside m f u n o q)
  where
    go : (b : Bool) → ltb u (s_end m f n) ≡ b → (last_around m f u n ≡ suc o → u < s_end m f o) → u < s_end m f o
    go true w ih = let x : suc n ≡ suc o = rw (w, last_around) at e in let q : o ≡ n = omega arith in rw q (ltb-true _ _ w)
    go false w ih = ih (rw (w, last_around) at e)

-- a number that passes a test, where some do
some_counted : (p : ℕ → Bool) (l : List ℕ) → 0 < count p l → (u : ℕ) × (p u ≡ true)
unfolding count
some_counted p [] h = absurd (omega arith)
some_counted p (x ∷ l) h = go (p x) refl (λ q. some_counted p l q)
  where
    go : (b : Bool) → p x ≡ b → (0 < count p l → (u : ℕ) × (p u ≡ true)) → (u : ℕ) × (p u ≡ true)
    go true w ih = (x, w)
    go false w ih = ih (rw (w, count) at h)

module _ (L : Limits) (m : List ℕ) (f : ℕ) (formed : SheetFormed L m f) where
  pub ends_past : (t : ℕ) → t < statements m f → t < s_end m f t
  ends_past t h = leb-false _ _ (formed.each_statement t h).end_past

  ends_in_owner : (t : ℕ) → t < statements m f → s_end m f t ≤ owner_end m f t
  ends_in_owner t h = ltb-false _ _ (formed.each_statement t h).end_in_owner

  -- by strong induction, through a bound
  nested_below : (n u : ℕ) → u < n → u < statements m f → (s : ℕ) → s < u → u < s_end m f s → s_end m f u ≤ s_end m f s
  unfolding owner owner_end
  nested_below zero u h hu s k l = absurd (omega arith)
  nested_below (suc n) u h hu s k l = go (last_spec m f u u s k l) (λ o q r v w. nested_below n o q r s v w)
    where
      go : (o : ℕ) × (last_around m f u u ≡ suc o) × (s ≤ o) × (o < u) × (u < s_end m f o)
          → ((o : ℕ) → o < n → o < statements m f → s < o → o < s_end m f s → s_end m f o ≤ s_end m f s) → s_end m f u ≤ s_end m f s
      go r ih = pick (eqb s r.0) refl
        where
          o : ℕ
          o = r.0

          in_o : s_end m f u ≤ s_end m f o
          in_o = rw (r.1, owner_end) at (ends_in_owner u hu)

          a : s ≤ o
          a = r.2

          b : o < u
          b = r.3

          pick : (t : Bool) → eqb s o ≡ t → s_end m f u ≤ s_end m f s
          pick true w = subst (λ v. s_end m f u ≤ s_end m f v) (sym (eqb-true s o w)) in_o
          pick false w =
              let ne : s ≡ o → ⊥ = eqb-false s o w in
              let c = ih o (omega arith) (omega arith) (omega arith) (omega arith) in
              omega (arith, in_o)

  pub nested : (u : ℕ) → u < statements m f → (s : ℕ) → s < u → u < s_end m f s → s_end m f u ≤ s_end m f s
  nested u = nested_below (suc u) u (omega arith)

  ends_below : (n u : ℕ) → u < n → u < statements m f → s_end m f u ≤ statements m f
  unfolding owner owner_end
  ends_below zero u h hu = absurd (omega arith)
  ends_below (suc n) u h hu = go (last_around m f u u) refl (λ o q r. ends_below n o q r)
    where
      go : (k : ℕ) → last_around m f u u ≡ k → ((o : ℕ) → o < n → o < statements m f → s_end m f o ≤ statements m f) → s_end m f u ≤ statements m f
      go zero e ih = rw (e, owner_end) at (ends_in_owner u hu)
      go (suc o) e ih =
          let b = last_below m f u u o e in
          let in_o : s_end m f u ≤ s_end m f o = rw (e, owner_end) at (ends_in_owner u hu) in
          let c = ih o (omega arith) (omega arith) in
          omega arith

  pub ends_inside : (u : ℕ) → u < statements m f → s_end m f u ≤ statements m f
  ends_inside u = ends_below (suc u) u (omega arith)

  -- a Loop holds two arms, so that something stands right after its record
  pub loop_holds : (t : ℕ) → t < statements m f → eqb (s_kind m f t) 10 ≡ true → t + 1 < s_end m f t
  unfolding arms_form arms owner ◌⇒◌
  loop_holds t h k =
      let two : arms m f t ≡ 2 = eqb-true _ _ (not-false _ (both_false (eqb (s_kind m f t) 8) (eqb (s_kind m f t) 10) _ k (passes (arms_form m f t) (formed.each_owner t h).1 0 (lit< tt)))) in
      let some = some_counted (λ u. eqb (owner m f u) (suc t)) (range 0 (statements m f)) (omega (arith, two)) in
      let e = eqb-true (owner m f some.0) (suc t) some.1 in
      let a = last_below m f some.0 some.0 t e in
      let b = last_inside m f some.0 some.0 t e in
      omega arith
    where
      both_false : (x y z : Bool) → y ≡ true → ((x || y) && z) ≡ false → z ≡ false
      both_false true y z q e = e
      both_false false true z q e = e
      both_false false false z q e = absurd (true≢false (sym q))
