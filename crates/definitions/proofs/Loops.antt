-- What is left of a list of numbers, its first and the rest: what a loop that counts i up to n has still to do, for each way in which the
-- definitions go through such a list.
use Prim.Native.Nat.{ℕ, suc, ◌+◌, ◌-◌, ◌≤◌, ◌<◌}
use native.Mathlib.Omega.{arith}
use mathlib.Core.List.{List, [], ◌∷◌}
use mathlib.Core.Path.{◌≡◌, refl, ap, ◌∙◌}
use mathlib.Core.Bool.{Bool, true, false, cond}
use lib.Dec.{eqb}
use Rattle.definitions.specs.Bytes.{range}
use Rattle.definitions.specs.Module.{absent}
use Rattle.definitions.specs.Checks.{fine, ◌>>=◌, Check, first, for_each, through, any, count}
use Rattle.definitions.specs.State.{Operand, present}
use Rattle.definitions.specs.Report.{records}
use Rattle.definitions.proofs.Runs.{run_left, run_done}

pub range_left : (i n : ℕ) → i < n → range i (n - i) ≡ i ∷ range (i + 1) (n - (i + 1))
unfolding range
range_left i n h =
    let e : n - i ≡ suc (n - (i + 1)) = omega arith in
    let q : suc i ≡ i + 1 = omega arith in
    ap (range i) e ∙ ap (λ k. i ∷ range k (n - (i + 1))) q

pub range_done : (i n : ℕ) → n ≤ i → range i (n - i) ≡ []
unfolding range
range_done i n h = let e : n - i ≡ 0 = omega arith in ap (range i) e

module _ (checks : ℕ → List Check) (i n : ℕ) where
  pub for_each_left : i < n → for_each checks (range i (n - i)) ≡ (first (checks i) >>= λ _. for_each checks (range (i + 1) (n - (i + 1))))
  unfolding for_each
  for_each_left h = run_left (λ j _. first (checks j)) i n tt h

  pub for_each_done : n ≤ i → for_each checks (range i (n - i)) ≡ fine tt
  unfolding for_each
  for_each_done h = run_done (λ j _. first (checks j)) i n tt h

module _ (p : ℕ → Bool) (i n : ℕ) where
  pub any_left : i < n → any p (range i (n - i)) ≡ cond (p i) true (any p (range (i + 1) (n - (i + 1))))
  unfolding any
  any_left h = ap (any p) (range_left i n h) ∙ go (p i) refl
    where
      go : (b : Bool) → p i ≡ b → any p (i ∷ range (i + 1) (n - (i + 1))) ≡ cond (p i) true (any p (range (i + 1) (n - (i + 1))))
      go true w = rw (w, any)
      go false w = rw (w, any)

  pub any_done : n ≤ i → any p (range i (n - i)) ≡ false
  unfolding any
  any_done h = ap (any p) (range_done i n h)

  pub count_left : i < n → count p (range i (n - i)) ≡ cond (p i) (suc (count p (range (i + 1) (n - (i + 1))))) (count p (range (i + 1) (n - (i + 1))))
  unfolding count
  count_left h = ap (count p) (range_left i n h) ∙ go (p i) refl
    where
      go : (b : Bool) → p i ≡ b → count p (i ∷ range (i + 1) (n - (i + 1))) ≡ cond (p i) (suc (count p (range (i + 1) (n - (i + 1))))) (count p (range (i + 1) (n - (i + 1))))
      go true w = rw (w, count)
      go false w = rw (w, count)

  pub count_done : n ≤ i → count p (range i (n - i)) ≡ 0
  unfolding count
  count_done h = ap (count p) (range_done i n h)

module _ {S : Type 0} (step : ℕ → S → S) (i n : ℕ) (s : S) where
  pub through_left : i < n → through step (range i (n - i)) s ≡ through step (range (i + 1) (n - (i + 1))) (step i s)
  unfolding through
  through_left h = ap (λ l. through step l s) (range_left i n h)

  pub through_done : n ≤ i → through step (range i (n - i)) s ≡ s
  unfolding through
  through_done h = ap (λ l. through step l s) (range_done i n h)

-- the operands of a record, place by place
module _ (op : ℕ → Operand) (j n : ℕ) where
  pub present_left : j < n → present op (range j (n - j))
      ≡ cond (eqb (op j).target absent) (present op (range (j + 1) (n - (j + 1)))) (op j ∷ present op (range (j + 1) (n - (j + 1))))
  unfolding present
  present_left h = ap (present op) (range_left j n h) ∙ go (eqb (op j).target absent) refl
    where
      go : (b : Bool) → eqb (op j).target absent ≡ b → present op (j ∷ range (j + 1) (n - (j + 1)))
          ≡ cond (eqb (op j).target absent) (present op (range (j + 1) (n - (j + 1)))) (op j ∷ present op (range (j + 1) (n - (j + 1))))
      go true w = rw (w, present)
      go false w = rw (w, present)

  pub present_done : n ≤ j → present op (range j (n - j)) ≡ []
  unfolding present
  present_done h = ap (present op) (range_done j n h)

-- the records of a list in bytes, one by one
module _ {A : Type 0} (one : List ℕ → ℕ → A) (size : ℕ) (b : List ℕ) (p n : ℕ) where
  pub records_left : 0 < n → records one size b p n ≡ one b p ∷ records one size b (p + size) (n - 1)
  unfolding records
  records_left h = let e : n ≡ suc (n - 1) = omega arith in ap (records one size b p) e

  pub records_done : n ≡ 0 → records one size b p n ≡ []
  unfolding records
  records_done h = ap (records one size b p) h
