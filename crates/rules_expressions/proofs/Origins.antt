-- The origin of a leaf and what a kind requires (01, 3.5 and 3.6), as the code's tests come to them.
use Prim.Native.Nat.{ℕ, ◌≤◌, ◌<◌}
use native.Mathlib.Omega.{arith}
use mathlib.Core.Logic.{◌≢◌, ◌⊎◌, inl, inr}
use mathlib.Core.Bool.{Bool, true, false, cond, ◌||◌, not}
use mathlib.Core.Path.{◌≡◌, refl, ◌∙◌, sym}
use mathlib.Core.List.{List}
use borrow.Author.Tests.{ne_eqb, eqb-true, eqb-false}
use lib.Dec.{eqb}
use Rattle.definitions.specs.Codes.{uniform_space, DERIVATIVE, IMPLICIT_LEVEL, COOPERATIVE}
use Rattle.definitions.specs.Module.{kind, number, space, argument_byte}
use Rattle.definitions.specs.Origin.{Origin, nowhere, from_expression, origin_from}
use Rattle.definitions.specs.Expressions.{own_origin, own_requirements}
use Rattle.vocabulary.proofs.Origins.{from_some}
use Rattle.module.specs.declared.Expression.{Expression}
use Rattle.module.specs.Sheets.{IsExpression}

or_false : (b : Bool) → b ≡ (b || false)
or_false true = refl
or_false false = refl

-- 3.5 own origins, kind by kind
module _ (m : List ℕ) (f e : ℕ) (x : Expression) (is : IsExpression m f e x) where
  kind_here : (k : ℕ) → x.kind ≡ k → kind m f e ≡ k
  kind_here k h = sym is.kind_is ∙ h

  pub kind_not : (k : ℕ) → x.kind ≢ k → eqb (kind m f e) k ≡ false
  kind_not k h = ne_eqb (kind m f e) k (λ q. h (is.kind_is ∙ q))

  pub own_argument : (a : ℕ) → x.kind ≡ 1 → a ≡ argument_byte m f x.number → eqb a 0 ≡ own_origin m f e
  unfolding own_origin
  own_argument a k h = rw (kind_here 1 k, h, is.number_is) (or_false (eqb (argument_byte m f (number m f e)) 0))

  pub own_space : (s : ℕ) (u : Bool) → x.kind ≡ 2 → s ≡ space m x.number → u ≡ uniform_space s → not u ≡ own_origin m f e
  unfolding own_origin
  own_space s u k h q = rw (kind_here 2 k, q, h, is.number_is)

  pub own_local : x.kind ≡ 3 → true ≡ own_origin m f e
  unfolding own_origin
  own_local k = rw (kind_here 3 k)

  pub own_none : x.kind ≢ 1 → x.kind ≢ 2 → x.kind ≢ 3 → false ≡ own_origin m f e
  unfolding own_origin
  own_none a b c = rw (kind_not 1 a, kind_not 2 b, kind_not 3 c)

-- 3.5 the origin of a leaf that is no CallResult
pub origin_own : (own : Bool) (e : ℕ) (o : Origin) → true ≡ own → e < 2048 → o ≡ origin_from e → o ≡ cond own (from_expression e) nowhere
origin_own own e o h k q = rw (sym h) (q ∙ from_some e (λ z. omega arith))

pub origin_none : (own : Bool) (e : ℕ) (o : Origin) → false ≡ own → o ≡ nowhere → o ≡ cond own (from_expression e) nowhere
origin_none own e o h q = rw (sym h) q

-- 3.6 what a kind requires by itself
pub requires_derivative : (k u : ℕ) → k ≡ 8 → 2 ≡ own_requirements k u
unfolding own_requirements DERIVATIVE
requires_derivative k u h = rw h

pub requires_level : (k u : ℕ) → k ≡ 13 → (u ≡ 0) ⊎ (u ≡ 3) → 4 ≡ own_requirements k u
unfolding own_requirements IMPLICIT_LEVEL
requires_level k u h (inl i) = rw (h, i)
requires_level k u h (inr i) = rw (h, i)

pub requires_no_level : (k u r : ℕ) → k ≡ 13 → ((u ≡ 0) ⊎ (u ≡ 3) → ⊥) → r ≡ 0 → r ≡ own_requirements k u
unfolding own_requirements
requires_no_level k u r h i z = rw (h, ne_eqb u 0 (λ q. i (inl q)), ne_eqb u 3 (λ q. i (inr q)), z)

pub requires_cooperative : (k u : ℕ) → 17 ≤ k → k < 19 → 8 ≡ own_requirements k u
unfolding own_requirements COOPERATIVE
requires_cooperative k u a b = go (eqb k 17) refl
  where
    go : (t : Bool) → eqb k 17 ≡ t → 8 ≡ own_requirements k u
    go true e = rw (eqb-true k 17 e)
    go false e = let n : k ≢ 17 = eqb-false k 17 e in let z : k ≡ 18 = omega arith in rw z

pub requires_nothing : (k u r : ℕ) → k ≢ 8 → k ≢ 13 → k ≢ 17 → k ≢ 18 → r ≡ 0 → r ≡ own_requirements k u
unfolding own_requirements
requires_nothing k u r a b c d z = rw (ne_eqb k 8 a, ne_eqb k 13 b, ne_eqb k 17 c, ne_eqb k 18 d, z)
