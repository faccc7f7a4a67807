-- In an accepted module the section of each function is what its own run gave, after the functions below it; and what holds of each
-- function by what holds of those below it holds of all.
use Prim.Native.Nat.{ℕ, zero, suc, ◌+◌, ◌-◌, ◌≤◌, ◌<◌}
use native.Mathlib.Omega.{arith}
use mathlib.Core.List.{List, [], ◌∷◌, ◌++◌}
use mathlib.Core.Path.{◌≡◌, refl, sym, ap, ◌∙◌, subst}
use mathlib.Core.Bool.{Bool, true, false}
use lib.Dec.{eqb}
use lib.ListN.{length, get_or, length-append, get_or-append}
use lib.Seq.{get_or_at}
use borrow.Author.Tests.{eqb-true, eqb-false}
use Rattle.definitions.specs.Limits.{Limits}
use Rattle.definitions.specs.Module.{functions}
use Rattle.definitions.specs.Checks.{Refusal, fine, refused, ◌>>=◌, first}
use Rattle.definitions.specs.Summary.{Section, no_section}
use Rattle.definitions.specs.Walk.{Walked}
use Rattle.definitions.specs.Analyse.{function_run, section_of, report_fits, sections, accepted}
use Rattle.definitions.proofs.Fold.{bind_fine, fine_inj}
use Rattle.definitions.proofs.Formed.{Formed, formed}

-- the last function of a run: those before it, its own run, and that the report still fits
pub record Last (L : Limits) (m : List ℕ) (f : ℕ) (d : List Section) : Type 0 where
  pub done : List Section
  pub w : Walked
  pub earlier : sections L m f ≡ fine done
  pub ran : function_run L m done f ≡ fine w
  pub fits : (u : Unit {0}) × (first (report_fits L m f (done ++ (section_of m f w ∷ []))) ≡ fine u)
  pub all : done ++ (section_of m f w ∷ []) ≡ d

pub last_of : (L : Limits) (m : List ℕ) (f : ℕ) (d : List Section) → sections L m (suc f) ≡ fine d → Last L m f d
unfolding sections
last_of L m f d e =
    let a = bind_fine _ _ e in
    let b = bind_fine _ _ a.2 in
    let c = bind_fine _ _ b.2 in
    record { done = a.0; w = b.0; earlier = a.1; ran = b.1; fits = (c.0, c.1); all = fine_inj c.2 }

pub done_length : (L : Limits) (m : List ℕ) (n : ℕ) (d : List Section) → sections L m n ≡ fine d → length d ≡ n
unfolding sections
done_length L m zero d e = ap length (sym (fine_inj e))
done_length L m (suc n) d e =
    let r = last_of L m n d e in
    let ih = done_length L m n r.done r.earlier in
    ap length (sym r.all) ∙ (length-append r.done (section_of m n r.w ∷ []) ∙ omega arith)

-- a refusal ends the run, whatever functions follow
pub sections_refused : (L : Limits) (m : List ℕ) (n k : ℕ) (r : Refusal) → n ≤ k → sections L m n ≡ refused r → sections L m k ≡ refused r
unfolding sections ◌>>=◌
sections_refused L m n k r h e = let z : k - n + n ≡ k = omega arith in subst (λ v. sections L m v ≡ refused r) z (more (k - n))
  where
    more : (i : ℕ) → sections L m (i + n) ≡ refused r
    more zero = let z : 0 + n ≡ n = omega arith in ap (sections L m) z ∙ e
    more (suc i) = let z : suc i + n ≡ suc (i + n) = omega arith in ap (sections L m) z ∙ rw (more i)

-- by functions: a property of each section, given that the sections before it have it
module _ (L : Limits) (m : List ℕ) (P : ℕ → Section → Type 0)
    (law : (f : ℕ) (done : List Section) (w : Walked) → f < functions m → length done ≡ f → function_run L m done f ≡ fine w
    → ((g : ℕ) → g < f → P g (get_or done g no_section)) → P f (section_of m f w)) where
  -- of the first n functions
  pub up_to : (n : ℕ) → n ≤ functions m → (d : List Section) → sections L m n ≡ fine d → (f : ℕ) → f < n → P f (get_or d f no_section)
  up_to zero h d e f k = absurd (omega arith)
  up_to (suc n) h d e f k = go (last_of L m n d e) (λ p q g lt. up_to n (omega arith) p q g lt)
    where
      go : Last L m n d → ((p : List Section) → sections L m n ≡ fine p → (g : ℕ) → g < n → P g (get_or p g no_section)) → P f (get_or d f no_section)
      go r ih = subst (λ v. P f (get_or v f no_section)) r.all (pick (eqb f n) refl)
        where
          y : Section
          y = section_of m n r.w

          len : length r.done ≡ n
          len = done_length L m n r.done r.earlier

          below : (g : ℕ) → g < n → P g (get_or r.done g no_section)
          below = ih r.done r.earlier

          pick : (b : Bool) → eqb f n ≡ b → P f (get_or (r.done ++ (y ∷ [])) f no_section)
          pick true q =
              subst (λ v. P v (get_or (r.done ++ (y ∷ [])) v no_section)) (sym (eqb-true f n q))
              (subst (P n) (sym (get_or_at r.done y [] no_section n len)) (law n r.done r.w (omega arith) len r.ran below))
          pick false q =
              let ne : f ≡ n → ⊥ = eqb-false f n q in
              let lt : f < n = omega arith in
              subst (P f) (sym (get_or-append r.done (y ∷ []) no_section f (omega (arith, len, lt)))) (below f lt)

  pub by_functions : (d : List Section) → accepted L m ≡ fine d → (f : ℕ) → f < functions m → P f (get_or d f no_section)
  unfolding accepted
  by_functions d e f h = let a = bind_fine _ _ e in up_to (functions m) (omega arith) d a.2 f h

pub accepted_formed : (L : Limits) (m : List ℕ) (d : List Section) → accepted L m ≡ fine d → Formed L m
unfolding accepted
accepted_formed L m d e = let a = bind_fine _ _ e in formed L m a.1

pub accepted_length : (L : Limits) (m : List ℕ) (d : List Section) → accepted L m ≡ fine d → length d ≡ functions m
unfolding accepted
accepted_length L m d e = let a = bind_fine _ _ e in done_length L m (functions m) d a.2
