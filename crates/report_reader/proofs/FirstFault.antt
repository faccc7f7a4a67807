-- Tests one after another, the first that holds gives the fault: what each decides, and what follows where all pass.
use mathlib.Core.Path.{◌≡◌, refl, ◌∙◌}
use mathlib.Core.Bool.{Bool, true, false, cond, ◌||◌}
use native.Mathlib.Omega.{arith}
use Prim.Native.Nat.{ℕ}
use Rattle.report_reader.specs.Reading.{Reading, and_then}
use Rattle.report_reader.specs.declared.Fault.{Fault}
use Rattle.std.specs.Prelude.{Ok, Err}

pub pass : (t : Bool) (x y : Reading) → t ≡ false → cond t x y ≡ y
pass t x y e = rw e

pub stop : (t : Bool) (x y : Reading) → t ≡ true → cond t x y ≡ x
stop t x y e = rw e

pub passed : (t : Bool) (why : Fault) (y : Reading) → cond t (Err why) y ≡ Ok tt → (t ≡ false) × (y ≡ Ok tt)
passed true why y e = absurd (let z : ◌≡◌ {A = ℕ} 0 1 = cc in omega arith)
passed false why y e = (refl, e)

-- of two tests, the first or else the second
pub next : (t u : Bool) → t ≡ false → (t || u) ≡ u
next t u e = rw e

pub neither : (t u : Bool) → t ≡ false → u ≡ false → (t || u) ≡ false
neither t u e h = next t u e ∙ h

-- one part after another
pub goes : (r : Reading) (rest : Reading) → r ≡ Ok tt → and_then r rest ≡ rest
unfolding and_then
goes r rest e = rw e

pub ends : (r : Reading) (why : Fault) (rest : Reading) → r ≡ Err why → and_then r rest ≡ r
unfolding and_then
ends r why rest e = rw e

pub both : (r rest : Reading) → and_then r rest ≡ Ok tt → (r ≡ Ok tt) × (rest ≡ Ok tt)
unfolding and_then
both (Ok u) rest e = (refl, e)
both (Err why) rest e = absurd (let z : ◌≡◌ {A = ℕ} 0 1 = cc in omega arith)
