-- Runs that stop at the first refusal: what the steps of the code say, and what is left of a run over numbers after
-- each of its turns.
use Prim.Native.Nat.{ℕ, zero, suc, ◌+◌, ◌-◌, ◌≤◌, ◌<◌}
use native.Mathlib.Omega.{arith}
use mathlib.Core.Path.{◌≡◌, sym, ap, ◌∙◌}
use mathlib.Core.List.{List}
use Rattle.std.specs.Prelude.{Result, Ok, Err}
use Rattle.definitions.specs.Bytes.{range}
use Rattle.definitions.specs.Checks as paper
use Rattle.definitions.specs.Checks.{Checked, fine, refused, ◌>>=◌, Check, first, for_each}
use Rattle.definitions.proofs.Loops.{for_each_left, for_each_done}
use Rattle.vocabulary.specs.Said.{step_said, refusal_said}
use Rattle.vocabulary.specs.declared.refusal.Refusal.{Refusal}
use Rattle.form_records.proofs.CheckLists.{refuses, goes}

-- a step of the code that gives nothing
abbrev pub Step : Type 0
Step = Result (Unit {0}) Refusal

-- what a step of the code says of what it answers
pub done : (r : Step) (o : Checked (Unit {0})) → step_said r ≡ o → r ≡ Ok tt → o ≡ fine tt
done r o e d = sym e ∙ ap step_said d

pub halted : (r : Step) (x : Refusal) (o : Checked (Unit {0})) → step_said r ≡ o → r ≡ Err x → o ≡ refused (refusal_said x)
halted r x o e d = sym e ∙ ap step_said d

-- a step that does not refuse goes on
pub follows : (r : Step) (o : Checked (Unit {0})) (k : Unit {0} → Checked (Unit {0})) → step_said r ≡ o → r ≡ Ok tt → (o >>= k) ≡ k tt
follows r o k e d = goes o k (done r o e d)

-- checks for the numbers from i on, of n
abbrev pub left : (ℕ → List Check) → ℕ → ℕ → Checked (Unit {0})
left checks i n = for_each checks (range i (n - i))

pub begun : (checks : ℕ → List Check) (n n' : ℕ) → n ≡ n' → for_each checks (range 0 n') ≡ left checks 0 n
begun checks n n' e = let q : n' ≡ n - 0 = omega arith in ap (λ k. for_each checks (range 0 k)) q

pub passed : (checks : ℕ → List Check) (i n : ℕ) → i < n → first (checks i) ≡ fine tt → left checks i n ≡ left checks (i + 1) n
passed checks i n h e = for_each_left checks i n h ∙ goes (first (checks i)) _ e

pub stopped : (checks : ℕ → List Check) (i n : ℕ) (r : paper.Refusal) → i < n → first (checks i) ≡ refused r → left checks i n ≡ refused r
stopped checks i n r h e = for_each_left checks i n h ∙ refuses (first (checks i)) _ e

pub ended : (checks : ℕ → List Check) (i n : ℕ) → n ≤ i → left checks i n ≡ fine tt
ended checks i n h = for_each_done checks i n h

-- the turns of a loop, where what is left gives the whole
pub run_refused : (checks : ℕ → List Check) (i n : ℕ) (r : Step) (x : Refusal) (whole : Checked (Unit {0})) → whole ≡ left checks i n → i < n
    → step_said r ≡ first (checks i) → r ≡ Err x → step_said r ≡ whole
run_refused checks i n r x whole w h e d = ap step_said d ∙ sym (w ∙ stopped checks i n (refusal_said x) h (halted r x (first (checks i)) e d))

-- the same of the refusal itself
pub run_stopped : (checks : ℕ → List Check) (i n : ℕ) (x : paper.Refusal) (whole : Checked (Unit {0})) → whole ≡ left checks i n → i < n
    → refused x ≡ first (checks i) → refused x ≡ whole
run_stopped checks i n x whole w h e = sym (w ∙ stopped checks i n x h (sym e))

pub run_on : (checks : ℕ → List Check) (i n : ℕ) (r : Step) (whole : Checked (Unit {0})) → whole ≡ left checks i n → i < n
    → step_said r ≡ first (checks i) → r ≡ Ok tt → whole ≡ left checks (i + 1) n
run_on checks i n r whole w h e d = w ∙ passed checks i n h (done r (first (checks i)) e d)

pub run_end : (checks : ℕ → List Check) (i n : ℕ) (whole : Checked (Unit {0})) → whole ≡ left checks i n → n ≤ i → fine tt ≡ whole
run_end checks i n whole w h = sym (w ∙ ended checks i n h)

-- a run whose first refusal is at k, or that has none
pub refused_at : (checks : ℕ → List Check) (k i n : ℕ) (r : paper.Refusal) → k < n → i ≤ k → ((j : ℕ) → j < k → first (checks j) ≡ fine tt) → first (checks k) ≡ refused r
    → left checks i n ≡ refused r
refused_at checks k i n r h le all e = go (k - i) i (omega arith)
  where
    go : (d i : ℕ) → i + d ≡ k → left checks i n ≡ refused r
    go zero i q =
        let p : i ≡ k = omega arith in
        stopped checks i n r (omega arith) (ap (λ j. first (checks j)) p ∙ e)
    go (suc d) i q = passed checks i n (omega arith) (all i (omega arith)) ∙ go d (i + 1) (omega arith)

pub never_refused : (checks : ℕ → List Check) (i n : ℕ) → i ≤ n → ((j : ℕ) → j < n → first (checks j) ≡ fine tt) → left checks i n ≡ fine tt
never_refused checks i n le all = go (n - i) i (omega arith)
  where
    go : (d i : ℕ) → i + d ≡ n → left checks i n ≡ fine tt
    go zero i q = ended checks i n (omega arith)
    go (suc d) i q = passed checks i n (omega arith) (all i (omega arith)) ∙ go d (i + 1) (omega arith)
