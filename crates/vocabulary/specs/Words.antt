-- What the text of a refusal says (01, 8.1): its number and what that means, its function and place, and its cause.
use Rattle.std.specs.Prelude.{ℕ, List, [], ◌++◌, codes, Some}
use Rattle.std.specs.Fmt.{decimal}
use Rattle.vocabulary.specs.declared.disruptor.UniformityDisruptor.{UniformityDisruptor}
use Rattle.vocabulary.specs.declared.disruptor.UniformityDisruptor.TheVariants.{Expression, Return, Discard}
use Rattle.vocabulary.specs.declared.refusal.Refusal.{Refusal}
use Rattle.vocabulary.specs.declared.refusal.Refusal.TheVariants.{Lent, Length, Count, Code, Shape, Range, Untraced, Base, Capability, Arguments, NonUniform, Full, Report, Deep}
use Rattle.vocabulary.specs.Said.{refusal_said}

-- 8.1 what a refusal means
abbrev pub meaning_text : Refusal → List ℕ
meaning_text Lent = codes "a lent slice is too short"
meaning_text (Length f) = codes "a length or the version is wrong"
meaning_text (Count f) = codes "a count is over its limit"
meaning_text (Code f p) = codes "an unknown code"
meaning_text (Shape f p) = codes "a record is not shaped as its kind wants"
meaning_text (Range f p) = codes "a number that names nothing there"
meaning_text (Untraced f e) = codes "an image or sampler can't be traced"
meaning_text (Base f e) = codes "the base of an access is no buffer"
meaning_text (Capability f e) = codes "a non-uniform index without its capability"
meaning_text (Arguments f p) = codes "a call with a wrong number of arguments"
meaning_text (NonUniform f e d) = codes "control flow must be uniform and is not"
meaning_text (Full f p) = codes "too many pairs"
meaning_text (Report f) = codes "the report would be too long"
meaning_text (Deep f p) = codes "a statement stands too deep"

-- 5.1 what disrupts uniform control flow
abbrev pub disruptor_text : UniformityDisruptor → List ℕ
disruptor_text (Expression e) = codes "expression " ++ decimal e.0
disruptor_text Return = codes "a return before it"
disruptor_text Discard = codes "a discard before it"

-- 8.1 the cause of a refusal, where it has one: of 11 alone
abbrev pub cause_text : Refusal → List ℕ
cause_text (NonUniform f e (Some d)) = codes ", cause: " ++ disruptor_text d
cause_text r = []

-- 8.1 its line
abbrev pub refusal_text : Refusal → List ℕ
refusal_text r =
    codes "refused " ++ decimal (refusal_said r).number ++ codes ": " ++ meaning_text r
    ++ codes "; function " ++ decimal (refusal_said r).function ++ codes ", place " ++ decimal (refusal_said r).place
    ++ cause_text r
