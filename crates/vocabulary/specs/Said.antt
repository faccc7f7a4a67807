-- What the code's enums say, in the paper's numbers and values (01, 12.3). The promises use these definitions.
use Rattle.std.specs.Prelude.{ℕ, Bool, eqb, ◌/◌, ◌%◌, Result, Ok, Err}
use Rattle.std.specs.Prelude as rust
use Rattle.std.proofs.Math.Option.{Option, none, some}
use Rattle.definitions.specs.Checks as checks
use Rattle.definitions.specs.Checks.{Checked, fine, refused, refusal}
use Rattle.definitions.specs.Origin as origins
use Rattle.definitions.specs.Report.{global_from}
use Rattle.definitions.specs.Walk as walks
use Rattle.definitions.specs.Walk.{non_uniform}
use Rattle.vocabulary.specs.declared.ids.ExpressionIndex.{ExpressionIndex}
use Rattle.vocabulary.specs.declared.ids.GlobalIndex.{GlobalIndex}
use Rattle.vocabulary.specs.declared.origin.Origin.{Origin}
use Rattle.vocabulary.specs.declared.assignable.AssignableGlobal.{AssignableGlobal}
use Rattle.vocabulary.specs.declared.disruptor.UniformityDisruptor.{UniformityDisruptor}
use Rattle.vocabulary.specs.declared.disruptor.UniformityDisruptor.TheVariants.{Expression, Return, Discard}
use Rattle.vocabulary.specs.declared.refusal.Refusal.{Refusal}
use Rattle.vocabulary.specs.declared.refusal.Refusal.TheVariants.{Lent, Length, Count, Code, Shape, Range, Untraced, Base, Capability, Arguments, NonUniform, Full, Report, Deep}
use Rattle.vocabulary.specs.declared.refusal.RefusalFields.{RefusalFields}

-- 3.5 an origin
abbrev pub origin_said : Origin → origins.Origin
origin_said o = origins.origin_from o.0

-- 3.1 the global that may be assigned through, or none
abbrev pub global_said : rust.Option GlobalIndex → Option ℕ
global_said rust.None = none
global_said (rust.Some g) = some g.0

-- 3.1 an assignable global, or none
abbrev pub assignable_said : AssignableGlobal → Option ℕ
assignable_said a = global_from a.0

-- 3.5 the expression that an origin is, or none
abbrev pub expression_said : rust.Option ExpressionIndex → origins.Origin
expression_said rust.None = origins.nowhere
expression_said (rust.Some e) = origins.from_expression e.0

-- 5.1 a disruptor, or none
abbrev pub disruptor_said : rust.Option UniformityDisruptor → walks.Disruptor
disruptor_said rust.None = walks.undisrupted
disruptor_said (rust.Some (Expression e)) = walks.by_expression e.0
disruptor_said (rust.Some Return) = walks.by_return
disruptor_said (rust.Some Discard) = walks.by_discard

-- 5.1 may-return and may-kill, as the two bits of an exit mask
unfoldable pub may_return_said : ℕ → Bool
may_return_said x = eqb (x % 2) 1

unfoldable pub may_kill_said : ℕ → Bool
may_kill_said x = eqb (x / 2 % 2) 1

-- 8.1 a refusal: number, function, place, cause, and the cause's number
abbrev pub refusal_said : Refusal → checks.Refusal
refusal_said Lent = refusal 1 0 0
refusal_said (Length f) = refusal 2 f 0
refusal_said (Count f) = refusal 3 f 0
refusal_said (Code f p) = refusal 4 f p
refusal_said (Shape f p) = refusal 5 f p
refusal_said (Range f p) = refusal 6 f p
refusal_said (Untraced f e) = refusal 7 f e.0
refusal_said (Base f e) = refusal 8 f e.0
refusal_said (Capability f e) = refusal 9 f e.0
refusal_said (Arguments f p) = refusal 10 f p
refusal_said (NonUniform f e d) = non_uniform f e.0 (disruptor_said d)
refusal_said (Full f p) = refusal 12 f p
refusal_said (Report f) = refusal 14 f 0
refusal_said (Deep f p) = refusal 15 f p

-- a step that gives nothing
abbrev pub step_said : Result (Unit {0}) Refusal → Checked (Unit {0})
step_said (Ok u) = fine tt
step_said (Err r) = refused (refusal_said r)

-- a refusal by its five values
abbrev pub told_said : RefusalFields → checks.Refusal
told_said t = record { number = t.number; function = t.function; place = t.place; cause = t.cause; cause_number = t.value }
