-- `form_linked::fiuraccju_form`: the values of what the form checks answer.
use Rattle.form_linked.specs.Values.{values_of}
use mathlib.Core.Path.{◌∙◌, ap}
use Rattle.form_linked.proofs.fiuraccju_form.Goals as goal

pub returns : goal.returns
returns c = c.of_step.ensures ∙ ap values_of c.form.ensures
