-- The code's arrays as a stack of extents, by the extent at each place: the last of it, one that holds one more, one
-- more on it, and what closing leaves of it.
use Prim.Native.Nat.{ℕ, zero, suc, ◌+◌, ◌-◌, ◌≤◌, ◌<◌}
use native.Mathlib.Omega.{arith}
use mathlib.Core.Path.{◌≡◌, refl, ap}
use mathlib.Core.List.{List, ◌∷◌}
use lib.ListN.{length, set}
use lib.Seq.{get_or-set_same, get_or-set_other}
use borrow.Author.Tests.{le-leb, lt-leb}
use Rattle.std.specs.Prelude.{Option}
use Rattle.limits.specs.Sizes.{open_extents_size}
use Rattle.form_statements.specs.declared.extents.Extent.{Extent}
use Rattle.form_statements.specs.Extents.{OpenValue, one_more, holding, last_of, holding_last, judged, closing, at, stack, open_value, ValidStack}

-- an extent that is stored at a place, and what it leaves at another
pub at_stored : (statements kinds ends holds : List ℕ) (d p : ℕ) (x : Extent) → ValidStack statements kinds ends holds d → p < open_extents_size
    → at (set statements p x.statement) (set kinds p x.kind) (set ends p x.end) (set holds p x.holds) p ≡ x
unfolding at
at_stored statements kinds ends holds d p x w h =
    rw (
      get_or-set_same statements p x.statement 0 (omega (arith, w.statements_long)),
      get_or-set_same kinds p x.kind 0 (omega (arith, w.kinds_long)),
      get_or-set_same ends p x.end 0 (omega (arith, w.ends_long)),
      get_or-set_same holds p x.holds 0 (omega (arith, w.holds_long)),
    )

pub at_other : (statements kinds ends holds : List ℕ) (p i : ℕ) (x : Extent) → (i ≡ p → ⊥)
    → at (set statements p x.statement) (set kinds p x.kind) (set ends p x.end) (set holds p x.holds) i ≡ at statements kinds ends holds i
unfolding at
at_other statements kinds ends holds p i x h =
    rw (
      get_or-set_other statements p i x.statement 0 h,
      get_or-set_other kinds p i x.kind 0 h,
      get_or-set_other ends p i x.end 0 h,
      get_or-set_other holds p i x.holds 0 h,
    )

-- what stands above a depth does not matter
pub same_below : (f g : ℕ → Extent) (d : ℕ) → ((i : ℕ) → i ≤ d → g i ≡ f i) → stack g d ≡ stack f d
unfolding stack
same_below f g zero h = refl
same_below f g (suc d) h = rw (h (suc d) (omega arith), same_below f g d (λ i le. h i (omega arith)))

pub last_at : (f : ℕ → Extent) (d : ℕ) → f d ≡ last_of (open_value f d)
unfolding last_of stack
last_at f zero = refl
last_at f (suc d) = refl

-- one statement more that the last holds, and one more extent
pub held_one : (f g : ℕ → Extent) (d : ℕ) → ((i : ℕ) → i < d → g i ≡ f i) → g d ≡ one_more (f d) → open_value g d ≡ holding_last (open_value f d)
unfolding holding_last holding stack
held_one f g zero h e = rw e
held_one f g (suc d) h e = rw (e, same_below f g d (λ i le. h i (omega arith)), h 0 (omega arith))

pub opened_one : (f g : ℕ → Extent) (d : ℕ) (x : Extent) → ((i : ℕ) → i ≤ d → g i ≡ f i) → g (d + 1) ≡ x → open_value g (d + 1) ≡ record { extents = x ∷ stack f d; table = f 0 }
unfolding stack
opened_one f g d x h e =
    let one : d + 1 ≡ suc d = omega arith in
    let here : g (suc d) ≡ x = rw one at e in
    rw (one, here, same_below f g d h, h 0 (omega arith))

pub length_stack : (f : ℕ → Extent) (d : ℕ) → length (stack f d) ≡ d
unfolding stack
length_stack f zero = refl
length_stack f (suc d) = ap suc (length_stack f d)

-- one extent more has a place, and one fewer is left
pub next_place : (f : ℕ → Extent) (d : ℕ) (o : OpenValue) → open_value f d ≡ o → length o.extents + 1 < open_extents_size → d + 1 < open_extents_size
next_place f d o is h = rw (← is, length_stack f d) at h

pub one_fewer : (f : ℕ → Extent) (d : ℕ) (o : OpenValue) → open_value f d ≡ o → 0 < d → length (stack f (d - 1)) < length o.extents
one_fewer f d o is h = rw (← is, length_stack f (d - 1), length_stack f d) (omega arith)

-- Closing, as the code does it: the last extent goes on past t, or it ends and is judged, or there is none
pub closing_stops : (t : ℕ) (f : ℕ → Extent) (d : ℕ) (bad : Option ℕ) → t < (f d).end → closing t (stack f d) bad ≡ record { extents = stack f d; bad = bad }
unfolding closing stack
closing_stops t f zero bad lt = refl
closing_stops t f (suc d) bad lt = rw (lt-leb (f (suc d)).end t (omega arith))

pub closing_goes : (t : ℕ) (f : ℕ → Extent) (d : ℕ) (bad next : Option ℕ) → 0 < d → (f d).end ≤ t → next ≡ judged (f d) bad
    → closing t (stack f d) bad ≡ closing t (stack f (d - 1)) next
unfolding closing stack
closing_goes t f zero bad next h le j = absurd (omega arith)
closing_goes t f (suc d) bad next h le j =
    let one : suc d - 1 ≡ d = omega arith in
    rw (le-leb (f (suc d)).end t (omega arith), one, j)

pub closing_done : (t : ℕ) (f : ℕ → Extent) (d : ℕ) (bad : Option ℕ) → d ≤ 0 → closing t (stack f d) bad ≡ record { extents = stack f d; bad = bad }
unfolding closing stack
closing_done t f zero bad h = refl
closing_done t f (suc d) bad h = absurd (omega arith)
