-- 01, 4.4 to 4.6: the pair lists, what a sampling enters, and what a Call takes from its callee.
use Rattle.std.specs.Prelude.{ℕ, List, [], ◌∷◌, ◌++◌, true, false, cond, leb, length}
use Rattle.definitions.specs.Limits.{Limits}
use Rattle.definitions.specs.Module.{operand, s_operand}
use Rattle.definitions.specs.Checks.{Refusal, refusal, Checked, refused, fine, ◌>>=◌, each}
use Rattle.definitions.specs.Ends.{End, glob, arg, Pair, trace, end_or_7, replaced, both_global, before}

-- 4.4 Each function has two lists of (image, sampler)
pub record Lists : Type 0 where
  pub pairs : List Pair
  pub mixed : List Pair

unfoldable pub no_pairs : Lists
no_pairs = record { pairs = []; mixed = [] }

-- 4.4 Each stands there once, and the lists ascend
unfoldable pub insert : Pair → List Pair → List Pair
insert x [] = x ∷ []
insert x (y ∷ ys) =
    elim (before x y) [
      | true ↦ x ∷ y ∷ ys
      | false ↦ elim (before y x) [ true ↦ y ∷ insert x ys | false ↦ y ∷ ys ]
    ]

-- 4.4 12 where a pair that is not yet there would be the 257th of its list
unfoldable pub within : Limits → Refusal → List Pair → Checked (List Pair)
within L full l = cond (leb (length l) L.pairs) (fine l) (refused full)

-- 4.4 A pair enters the list that its ends say
unfoldable pub enter : Limits → Refusal → Pair → Lists → Checked Lists
enter L full p l =
    cond (both_global p)
    (within L full (insert p l.pairs) >>= λ ps. fine (record { pairs = ps; mixed = l.mixed }))
    (within L full (insert p l.mixed) >>= λ ps. fine (record { pairs = l.pairs; mixed = ps }))

-- 4.5 ImageSample traces its image, then its sampler, and enters its pair. 7 (f, e) for either end; 12 (f, e)
unfoldable pub sample : Limits → List ℕ → ℕ → ℕ → Lists → Checked Lists
sample L m f e l = do
  i ← end_or_7 f e (trace m f (operand m f e 0))
  s ← end_or_7 f e (trace m f (operand m f e 1))
  enter L (refusal 12 f e) (record { image = i; sampler = s }) l

-- 4.6 the place of a 7 in a Call is the operand's expression number; an end that is a global is never refused
unfoldable pub replacing_place : List ℕ → ℕ → ℕ → End → ℕ
replacing_place m f t (glob g) = 0
replacing_place m f t (arg a) = s_operand m f t a

unfoldable pub replace : List ℕ → ℕ → ℕ → End → Checked End
replace m f t x = end_or_7 f (replacing_place m f t x) (replaced m f t x)

-- 4.6 the image and then the sampler is replaced; the result enters the caller's lists. 12 (f, t), where t is the Call
unfoldable pub take_pair : Limits → List ℕ → ℕ → ℕ → Pair → Lists → Checked Lists
take_pair L m f t p l = do
  i ← replace m f t p.image
  s ← replace m f t p.sampler
  enter L (refusal 12 f t) (record { image = i; sampler = s }) l

-- 4.6 A Call takes the callee's pairs, then its mixed pairs, each list in ascending order
unfoldable pub take_pairs : Limits → List ℕ → ℕ → ℕ → Lists → Lists → Checked Lists
take_pairs L m f t callee l = each (take_pair L m f t) (callee.pairs ++ callee.mixed) l
