-- A scan over a record's operands, operand by operand: what is left to look at gives what is found of the whole.
use Prim.Native.Nat.{ℕ, zero, suc, ◌+◌, ◌-◌, ◌≤◌, ◌<◌}
use native.Mathlib.Omega.{arith}
use mathlib.Core.Path.{◌≡◌, refl, sym, ap, ◌∙◌}
use mathlib.Core.Bool.{Bool, true, false, cond, ◌||◌}
use lib.Dec.{leb, eqb}
use borrow.Author.Tests.{lt-leb, le-leb, ne_eqb}
use Rattle.definitions.specs.Bytes.{range}
use Rattle.definitions.specs.Checks.{any}
use Rattle.definitions.proofs.Loops.{any_left, any_done}
use Rattle.std.specs.Prelude.{Ok, Err}
use Rattle.form_records.specs.declared.OperandFault.TheVariants.{Outside, Misplaced, Astray}
use Rattle.form_records.specs.OperandChecks.{Operands, operands_found, found_from}
use Rattle.form_records.proofs.CheckLists.{or_false}

-- whether some number of a range passes a test
any_front : (p : ℕ → Bool) (i n : ℕ) → i < n → any p (range i (n - i)) ≡ (p i || any p (range (i + 1) (n - (i + 1))))
any_front p i n h = any_left p i n h ∙ go (p i) _
  where
    go : (b x : Bool) → cond b true x ≡ (b || x)
    go true x = refl
    go false x = refl

any_here : (p : ℕ → Bool) (i n : ℕ) → i < n → p i ≡ true → any p (range i (n - i)) ≡ true
any_here p i n h e = any_front p i n h ∙ rw e

any_not_here : (p : ℕ → Bool) (i n : ℕ) → i < n → p i ≡ false → any p (range i (n - i)) ≡ any p (range (i + 1) (n - (i + 1)))
any_not_here p i n h e = any_front p i n h ∙ rw e

any_next : (a : Bool) (p : ℕ → Bool) (i n : ℕ) → i < n → (a || any p (range i (n - i))) ≡ ((a || p i) || any p (range (i + 1) (n - (i + 1))))
any_next true p i n h = refl
any_next false p i n h = any_front p i n h

-- none does, where no number below n does
pub any_none_below : (p : ℕ → Bool) (n : ℕ) → ((j : ℕ) → j < n → p j ≡ false) → any p (range 0 n) ≡ false
any_none_below p n h = let e : n ≡ n - 0 = omega arith in ap (λ k. any p (range 0 k)) e ∙ from n 0 (omega arith)
  where
    from : (d i : ℕ) → i + d ≡ n → any p (range i (n - i)) ≡ false
    from zero i q = any_done p i n (omega arith)
    from (suc d) i q = any_not_here p i n (omega arith) (h i (omega arith)) ∙ from d (i + 1) (omega arith)

-- a part outside the pool, and one within it
pub is_outside : (n k : ℕ) (b c : Bool) → n < k → Err Outside ≡ operands_found (leb k n) b c
unfolding operands_found
is_outside n k b c h = rw (lt-leb k n h)

pub is_inside : (n k : ℕ) (b c : Bool) → k ≤ n → operands_found true b c ≡ operands_found (leb k n) b c
is_inside n k b c h = rw (le-leb k n h)

-- the same, of a record that may have none
pub has_none : (n : ℕ) (x : Bool) (p q : ℕ → Bool) → n ≡ 0 → Ok tt ≡ operands_found (eqb n 0 || x) (any p (range 0 n)) (any q (range 0 n))
unfolding operands_found any range
has_none n x p q e = rw e

pub with_some : (n : ℕ) (x b c : Bool) → (n ≡ 0 → ⊥) → operands_found x b c ≡ operands_found (eqb n 0 || x) b c
with_some n x b c ne = rw (ne_eqb n 0 ne)

module _ (p q : ℕ → Bool) (n : ℕ) where
  pub scan_stops : (whole : Operands) (j : ℕ) (a : Bool) → whole ≡ found_from p q j (n - j) a → j < n → p j ≡ true → Err Misplaced ≡ whole
  unfolding found_from operands_found
  scan_stops whole j a w h e = sym (w ∙ rw (any_here p j n h e))

  pub scan_goes : (whole : Operands) (j : ℕ) (a b : Bool) → whole ≡ found_from p q j (n - j) a → j < n → p j ≡ false → b ≡ (a || q j) → whole ≡ found_from p q (j + 1) (n - (j + 1)) b
  unfolding found_from
  scan_goes whole j a b w h e s = w ∙ rw (any_not_here p j n h e, any_next a q j n h, s)

  pub scan_ends : (whole : Operands) (j : ℕ) (a : Bool) → whole ≡ found_from p q j (n - j) a → n ≤ j → whole ≡ operands_found true false a
  unfolding found_from
  scan_ends whole j a w h = w ∙ rw (any_done p j n h, any_done q j n h) (ap (operands_found true false) (sym (or_false a)))

  pub scan_astray : (whole : Operands) (j : ℕ) (a : Bool) → whole ≡ found_from p q j (n - j) a → n ≤ j → a ≡ true → Err Astray ≡ whole
  unfolding operands_found
  scan_astray whole j a w h e = sym (scan_ends whole j a w h ∙ rw e)

  pub scan_fine : (whole : Operands) (j : ℕ) (a : Bool) → whole ≡ found_from p q j (n - j) a → n ≤ j → a ≡ false → Ok tt ≡ whole
  unfolding operands_found
  scan_fine whole j a w h e = sym (scan_ends whole j a w h ∙ rw e)
