-- 01, 10: chains, over the module's Calls and sampling expressions alone, and what demand 3 says of a function's lists.
use Rattle.std.specs.Prelude.{ℕ, ◌<◌, List, [], ◌∷◌, ◌≡◌, ◌⊎◌, ◌↔◌, true, false}
use Rattle.definitions.specs.Module.{kind, expressions, statements, operand, s_kind, s_number}
use Rattle.definitions.specs.Ends.{End, Pair, Traced, reaches, neither, trace, replaced, both_global, before}
use Rattle.definitions.specs.Pairs.{Lists}

-- 10.1 A chain is a list of Calls, by their statement numbers, or no Call at all; and a sampling expression of the function where the list
-- ends. It is data that could be written down
pub record Chain : Type 0 where
  pub calls : List ℕ
  pub sampling : ℕ

-- 10.1 from f: the first Call in f and each next one in the callee of the one before
abbrev pub Leads : List ℕ → ℕ → List ℕ → ℕ → Type 0
Leads m f [] e = (e < expressions m f) × (kind m f e ≡ 13)
Leads m f (t ∷ ts) e = (t < statements m f) × (s_kind m f t ≡ 6) × Leads m (s_number m f t) ts e

abbrev pub From : List ℕ → ℕ → Chain → Type 0
From m f c = Leads m f c.calls c.sampling

-- what an end of the callee is in the caller, if it could be traced at all
unfoldable pub onto : Traced → (End → Traced) → Traced
onto (reaches x) k = k x
onto neither k = neither

-- 10.1 Traced back along it, the ends of the sampling are replaced, Call by Call from the last to the first, where they are arguments, by what
-- the Call's operand of that number traces to. j is 0 for the image and 1 for the sampler
unfoldable pub back : List ℕ → ℕ → List ℕ → ℕ → ℕ → Traced
back m f [] e j = trace m f (operand m f e j)
back m f (t ∷ ts) e j = onto (back m (s_number m f t) ts e j) (replaced m f t)

abbrev pub Traces : List ℕ → ℕ → Chain → Pair → Type 0
Traces m f c p = (back m f c.calls c.sampling 0 ≡ reaches p.image) × (back m f c.calls c.sampling 1 ≡ reaches p.sampler)

-- 10.2 some chain from f traces back to p
pub record Chained (m : List ℕ) (f : ℕ) (p : Pair) : Type 0 where
  pub chain : Chain
  pub from : From m f chain
  pub traces : Traces m f chain p

-- what stands in a list; that it ascends; that nothing stands in it twice
abbrev pub Mem : {A : Type 0} → A → List A → Type 0
Mem z [] = ⊥
Mem z (x ∷ xs) = (z ≡ x) ⊎ Mem z xs

abbrev pub Ascending : List Pair → Type 0
Ascending [] = Unit {0}
Ascending (x ∷ xs) = ((z : Pair) → Mem z xs → before x z ≡ true) × Ascending xs

abbrev pub Once : List Pair → Type 0
Once [] = Unit {0}
Once (x ∷ xs) = (Mem x xs → ⊥) × Once xs

-- 10.2 the lists of f. Nothing is missing, nothing is extra, each stands once, both lists ascend. No chain is lost to an end that can't be
-- traced
pub record Exact (m : List ℕ) (f : ℕ) (l : Lists) : Type 0 where
  pub pairs_are : (p : Pair) → Mem p l.pairs ↔ (Chained m f p × (both_global p ≡ true))
  pub mixed_are : (p : Pair) → Mem p l.mixed ↔ (Chained m f p × (both_global p ≡ false))
  pub pairs_ascend : Ascending l.pairs
  pub mixed_ascend : Ascending l.mixed
  pub pairs_once : Once l.pairs
  pub mixed_once : Once l.mixed
  pub none_lost : (c : Chain) → From m f c → (p : Pair) × Traces m f c p
