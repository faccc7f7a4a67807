-- What the code's values say in the paper's terms (01, 12.3).
use Rattle.definitions.specs.Summary as paper
use Rattle.vocabulary.specs.Said.{origin_said, assignable_said}
use Rattle.report.specs.declared.layout.Entry.{Entry}

-- 7.4 an expression
unfoldable pub entry_said : Entry → paper.Entry
entry_said e = record {
  known = record { origin = origin_said e.origin; requirements = e.requirements.0; assignable = assignable_said e.assignable };
  count = e.count;
}
