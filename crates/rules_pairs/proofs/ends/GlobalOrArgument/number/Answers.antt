-- Each case by computing `end_number`.
use Rattle.definitions.specs.Report.{end_number}
use borrow.Author.Rules.{rules}
use Rattle.rules_pairs.proofs.ends.GlobalOrArgument.number.Goals as goal

pub returns-in-Global : goal.returns-in-Global
unfolding end_number
returns-in-Global c = search rules

pub returns-in-Argument : goal.returns-in-Argument
unfolding end_number
returns-in-Argument c = search rules
