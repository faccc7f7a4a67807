use mathlib.Core.Path.{◌∙◌, ap}
use Rattle.fiuraccju_c.specs.Packed.{packed}
use Rattle.fiuraccju_c.proofs.Answers.{ran_back}
use Rattle.fiuraccju_c.proofs.fiuraccju_run.Goals as goal

pub returns : goal.returns
returns c = record {
  is_packed = c.of_answer.ensures.is_packed ∙ ap packed c.analyse.ensures.answers;
  ran = ran_back c.analyse.ensures c.of_answer.ensures;
}
