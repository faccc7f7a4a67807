-- An ImageSample, or another kind (OneExpression).
use mathlib.Core.Path.{◌∙◌, sym}
use Rattle.definitions.specs.Limits.{version_1}
use Rattle.rules_pairs.proofs.FromForm.{is_sampling}
use Rattle.rules_expressions.proofs.FromForm.{sheet_of}
use Rattle.rules_expressions.proofs.OneExpression.{samples, samples_not}
use Rattle.rules_expressions.proofs.sample.Goals as goal

pub sample-requires : goal.sample-requires
sample-requires c = (is_sampling version_1 _ _ c.requires.0.sheet.stands (sheet_of _ _ c.requires.0.sheet) _ _ c.requires.0.there (sym c.requires.0.is.kind_is ∙ c.if-x-eq-IMAGE_SAMPLE.true) c.requires.0.is.first_is, c.requires.1)

pub returns-then-x-eq-IMAGE_SAMPLE : goal.returns-then-x-eq-IMAGE_SAMPLE
returns-then-x-eq-IMAGE_SAMPLE c = samples _ _ _ _ _ _ c.requires.0 _ _ c.if-x-eq-IMAGE_SAMPLE.true c.sample.ensures

pub returns-else-x-eq-IMAGE_SAMPLE : goal.returns-else-x-eq-IMAGE_SAMPLE
returns-else-x-eq-IMAGE_SAMPLE c = samples_not _ _ _ _ _ _ c.requires.0 c.requires.1 c.if-x-eq-IMAGE_SAMPLE.false
