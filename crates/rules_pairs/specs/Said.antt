-- What the code's values say in the paper's terms (01, 12.3). The promises use these definitions.
use Rattle.std.specs.Prelude.{Result, Ok, Err}
use Rattle.definitions.specs.Ends as paper
use Rattle.definitions.specs.Ends.{glob, arg}
use Rattle.rules_pairs.specs.declared.ends.GlobalOrArgument.{GlobalOrArgument}
use Rattle.rules_pairs.specs.declared.ends.GlobalOrArgument.TheVariants.{Global, Argument}
use Rattle.rules_pairs.specs.declared.ends.Pair.{Pair}
use Rattle.rules_pairs.specs.declared.traced.Traced.{Traced}
use Rattle.rules_pairs.specs.declared.traced.Traced.TheVariants as traced
use Rattle.definitions.specs.Checks.{Checked, fine, refused}
use Rattle.vocabulary.specs.declared.refusal.Refusal.{Refusal}
use Rattle.vocabulary.specs.Said.{refusal_said}

-- 4.4 an end
abbrev pub end_said : GlobalOrArgument → paper.End
end_said (Global g) = glob g.0
end_said (Argument a) = arg a.0

-- 4.4 a pair
unfoldable pub pair_said : Pair → paper.Pair
pair_said p = record { image = end_said p.image; sampler = end_said p.sampler }

-- 4.3 what tracing answers
abbrev pub traced_said : Traced → paper.Traced
traced_said (traced.Global g) = paper.reaches (glob g.0)
traced_said (traced.Argument a) = paper.reaches (arg a.0)
traced_said traced.Neither = paper.neither

-- 4.3 an end, or refusal 7
abbrev pub ended_said : Result GlobalOrArgument Refusal → Checked paper.End
ended_said (Ok e) = fine (end_said e)
ended_said (Err r) = refused (refusal_said r)
