-- A disruptor, or none: the library's `or` and `is_some` are the definitions'.
use mathlib.Core.Path.{◌≡◌, refl}
use Rattle.std.specs.Option.{is_some, option_or}
use Rattle.std.specs.Prelude.{Option, Some, None}
use Rattle.definitions.specs.Walk.{or_then, disrupted}
use Rattle.vocabulary.specs.Said.{disruptor_said}
use Rattle.vocabulary.specs.declared.disruptor.UniformityDisruptor.{UniformityDisruptor}
use Rattle.vocabulary.specs.declared.disruptor.UniformityDisruptor.TheVariants.{Expression, Return, Discard}

pub or_is : (d e : Option UniformityDisruptor) → disruptor_said (option_or d e) ≡ or_then (disruptor_said d) (disruptor_said e)
unfolding or_then
or_is None e = refl
or_is (Some (Expression x)) e = refl
or_is (Some Return) e = refl
or_is (Some Discard) e = refl

pub some_is : (d : Option UniformityDisruptor) → is_some d ≡ disrupted (disruptor_said d)
unfolding disrupted
some_is None = refl
some_is (Some (Expression x)) = refl
some_is (Some Return) = refl
some_is (Some Discard) = refl
