-- `form_linked::of_step`: the five values of each answer.
use Rattle.vocabulary.specs.Said.{step_said}
use Rattle.form_linked.specs.Values.{values, values_of}
use mathlib.Core.Path.{◌∙◌, ap, sym}
use Rattle.form_linked.proofs.of_step.Goals as goal

pub returns-in-Err : goal.returns-in-Err
returns-in-Err c = c.five.ensures ∙ ap values c.from.ensures ∙ ap (λ s. values_of (step_said s)) (sym c.in-Err.is)
