-- No two refusals of the code say the same (01, 8.1 and 12.1): the five values of a refusal give the refusal back. A list
-- has a line for each number, and a line may use all five values.
use Prim.Native.Nat.{ℕ}
use mathlib.Core.Bool.{true, false}
use Rattle.std.specs.Prelude.{Option, Some, None}
use mathlib.Core.List.{List, [], ◌∷◌}
use mathlib.Core.Path.{◌≡◌, refl, sym, ap, ◌∙◌}
use lib.Dec.{eqb}
use lib.ListN.{get_or}
use Rattle.definitions.specs.Checks as checks
use Rattle.definitions.specs.Checks.{refusal}
use Rattle.definitions.specs.Walk.{non_uniform}
use Rattle.vocabulary.specs.declared.ids.ExpressionIndex.{ExpressionIndex}
use Rattle.vocabulary.specs.declared.disruptor.UniformityDisruptor.{UniformityDisruptor}
use Rattle.vocabulary.specs.declared.disruptor.UniformityDisruptor.TheVariants.{Expression, Return, Discard}
use Rattle.vocabulary.specs.declared.refusal.Refusal.{Refusal}
use Rattle.vocabulary.specs.declared.refusal.Refusal.TheVariants.{Lent, Length, Count, Code, Shape, Range, Untraced, Base, Capability, Arguments, NonUniform, Full, Report, Deep}
use Rattle.vocabulary.specs.Said.{refusal_said}

-- an expression's number, as the code has it
abbrev index : ℕ → ExpressionIndex
index x = record { 0 = x }

-- a disruptor by its cause and the cause's number
abbrev disruptor_of : checks.Refusal → Option UniformityDisruptor
disruptor_of t = get_or (None ∷ Some (Expression (index t.cause_number)) ∷ Some Return ∷ Some Discard ∷ []) t.cause None

-- a refusal by its number
abbrev numbered : List (ℕ × (checks.Refusal → Refusal))
numbered =
    (1, λ t. Lent)
    ∷ (2, λ t. Length t.function)
    ∷ (3, λ t. Count t.function)
    ∷ (4, λ t. Code t.function t.place)
    ∷ (5, λ t. Shape t.function t.place)
    ∷ (6, λ t. Range t.function t.place)
    ∷ (7, λ t. Untraced t.function (index t.place))
    ∷ (8, λ t. Base t.function (index t.place))
    ∷ (9, λ t. Capability t.function (index t.place))
    ∷ (10, λ t. Arguments t.function t.place)
    ∷ (11, λ t. NonUniform t.function (index t.place) (disruptor_of t))
    ∷ (12, λ t. Full t.function t.place)
    ∷ (14, λ t. Report t.function)
    ∷ (15, λ t. Deep t.function t.place)
    ∷ []

-- what no number of the list has is nobody's refusal: any will do
abbrev look_up : List (ℕ × (checks.Refusal → Refusal)) → checks.Refusal → Refusal
look_up [] t = Lent
look_up (x ∷ rest) t = elim (eqb t.number x.0) [ true ↦ x.1 t | false ↦ look_up rest t ]

unfoldable pub refusal_of : checks.Refusal → Refusal
refusal_of t = look_up numbered t

-- what a refusal says gives the refusal back
pub refusal_back : (r : Refusal) → refusal_of (refusal_said r) ≡ r
unfolding refusal_of refusal non_uniform
refusal_back Lent = refl
refusal_back (Length f) = refl
refusal_back (Count f) = refl
refusal_back (Code f p) = refl
refusal_back (Shape f p) = refl
refusal_back (Range f p) = refl
refusal_back (Untraced f e) = refl
refusal_back (Base f e) = refl
refusal_back (Capability f e) = refl
refusal_back (Arguments f p) = refl
refusal_back (NonUniform f e None) = refl
refusal_back (NonUniform f e (Some (Expression x))) = refl
refusal_back (NonUniform f e (Some Return)) = refl
refusal_back (NonUniform f e (Some Discard)) = refl
refusal_back (Full f p) = refl
refusal_back (Report f) = refl
refusal_back (Deep f p) = refl

-- so two refusals that say the same are one
pub one_refusal : (r s : Refusal) → refusal_said r ≡ refusal_said s → r ≡ s
one_refusal r s e = sym (refusal_back r) ∙ ap refusal_of e ∙ refusal_back s
