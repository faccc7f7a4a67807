-- The pairs in order, one number after another.
use Rattle.std.proofs.Common.{refl, rules, tests}
use Rattle.std.proofs.lemmas.Iterator.Search.{any_from_yields_List}
use Rattle.definitions.specs.Limits.{version_1}
use Rattle.report_reader.specs.Reading.{pair_wrong}
use Rattle.report_reader.proofs.SomeWrong.{below, some_wrong}
use Rattle.report_reader.proofs.contents.some_pair_wrong.Goals as goal

pub returns : goal.returns
returns c =
    let wrong = pair_wrong version_1 c.args.s.bytes.now c.args.s.header.at in
    some_wrong wrong _ (any_from_yields_List wrong _ _ _ c.any.ensures.ran (below refl) (λ x b q k. search (rules, tests))) c.args.s.valid.layout.pairs_are
