-- What the walk's answers say, in the definitions' terms (01, 5.1).
use Rattle.std.specs.Prelude.{false, ◌≡◌}
use Rattle.definitions.specs.Origin as origins
use Rattle.definitions.specs.Walk as walks
use Rattle.vocabulary.specs.Said.{origin_said, may_return_said, may_kill_said}
use Rattle.report.specs.declared.Summary.{Summary}
use Rattle.rules_statements.specs.declared.uniformity.FunctionUniformity.{FunctionUniformity}

abbrev pub outcome_said : FunctionUniformity → walks.Outcome
outcome_said o = record {
  origin = origin_said o.origin;
  requirements = o.requirements.0;
  may_return = may_return_said o.exit.0;
  may_kill = may_kill_said o.exit.0;
}

-- 5.2 Kill: may kill, if there is a disruptor
unfoldable pub kill_outcome : walks.Disruptor → walks.Outcome
kill_outcome d = record { origin = origins.nowhere; requirements = 0; may_return = false; may_kill = walks.disrupted d }

-- 5.2 Return: the operand's origin; may return, if there is a disruptor
unfoldable pub return_outcome : walks.Disruptor → origins.Origin → walks.Outcome
return_outcome d o = record { origin = o; requirements = 0; may_return = walks.disrupted d; may_kill = false }

-- 5.2 Call: what the callee's summary says
unfoldable pub summary_outcome : Summary → walks.Outcome
summary_outcome y = record { origin = origin_said y.origin; requirements = y.requirements.0; may_return = false; may_kill = y.may_kill }

-- 6.2 what a function's callers see of the outcome o of its statements
pub record SummaryOf (o : FunctionUniformity) (y : Summary) : Type 0 where
  pub origin_is : origin_said y.origin ≡ origin_said o.origin
  pub requirements_are : y.requirements.0 ≡ o.requirements.0
  pub may_kill_is : y.may_kill ≡ may_kill_said o.exit.0
