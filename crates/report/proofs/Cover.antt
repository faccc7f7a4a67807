-- Cover (01, 7.6): at each global that both lists have, a test.
use Prim.Native.Nat.{ℕ}
use mathlib.Core.Path.{◌≡◌, refl}
use mathlib.Core.Bool.{Bool, true, false, ◌&&◌}
use mathlib.Core.List.{List, [], ◌∷◌}
use lib.Bits.{bit_and}
use lib.Dec.{eqb}
use Rattle.std.specs.List.{list_all, zip}
use Rattle.definitions.specs.Report.{dominates}

pub cover_all : (a b : List ℕ) → dominates a b ≡ list_all (λ (p : ℕ × ℕ). eqb (bit_and p.0 p.1) p.1) (zip a b)
unfolding dominates
cover_all [] b = refl
cover_all (x ∷ a) [] = refl
cover_all (x ∷ a) (y ∷ b) = by_test (eqb (bit_and x y) y) (cover_all a b)
  where
    by_test : (t : Bool) → dominates a b ≡ list_all (λ (p : ℕ × ℕ). eqb (bit_and p.0 p.1) p.1) (zip a b)
        → elim t [ true ↦ dominates a b | false ↦ false ] ≡ (t && list_all (λ (p : ℕ × ℕ). eqb (bit_and p.0 p.1) p.1) (zip a b))
    by_test true h = h
    by_test false h = refl
