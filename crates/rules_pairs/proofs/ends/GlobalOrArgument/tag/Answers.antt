-- Each case by computing `tag`.
use Rattle.definitions.specs.Report.{tag}
use borrow.Author.Rules.{rules}
use Rattle.rules_pairs.proofs.ends.GlobalOrArgument.tag.Goals as goal

pub returns-in-Global : goal.returns-in-Global
unfolding tag
returns-in-Global c = search rules

pub returns-in-Argument : goal.returns-in-Argument
unfolding tag
returns-in-Argument c = search rules
