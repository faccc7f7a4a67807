-- A number is the code of an origin or of an assignable global: 65535 is none, any other names an expression or a global.
use Prim.Native.Nat.{ℕ}
use mathlib.Core.Path.{◌≡◌, refl, sym}
use mathlib.Core.Bool.{Bool, true, false}
use mathlib.Core.Option.{none, some}
use lib.Dec.{eqb}
use borrow.Author.Tests.{eq-eqb, ne_eqb, eqb-true}
use Rattle.definitions.specs.Module.{absent}
use Rattle.definitions.specs.Origin.{from_expression, origin_from, origin_number}
use Rattle.definitions.specs.Report.{global_from, global_number}

pub no_global : (x : ℕ) → x ≡ 65535 → global_from x ≡ none
unfolding global_from absent
no_global x e = rw (eq-eqb _ _ e)

pub some_global : (x : ℕ) → (x ≡ 65535 → ⊥) → global_from x ≡ some x
unfolding global_from absent
some_global x h = rw (ne_eqb _ _ h)

pub from_some : (x : ℕ) → (x ≡ 65535 → ⊥) → origin_from x ≡ from_expression x
unfolding origin_from absent
from_some x h = rw (ne_eqb _ _ h)

-- a code is what its origin writes
pub number_from : (x : ℕ) → origin_number (origin_from x) ≡ x
unfolding origin_from origin_number absent
number_from x = go (eqb x 65535) refl
  where
    go : (b : Bool) → eqb x 65535 ≡ b → origin_number (origin_from x) ≡ x
    go true e = rw e (sym (eqb-true x 65535 e))
    go false e = rw e

pub global_number_from : (x : ℕ) → global_number (global_from x) ≡ x
unfolding global_from global_number absent
global_number_from x = go (eqb x 65535) refl
  where
    go : (b : Bool) → eqb x 65535 ≡ b → global_number (global_from x) ≡ x
    go true e = rw e (sym (eqb-true x 65535 e))
    go false e = rw e
