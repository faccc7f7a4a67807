-- `extents::judged`: a statement before `bad` takes its place where it is miscounted.
use Rattle.std.proofs.Common.{rules}
use Rattle.form_statements.specs.Extents.{judged, first_of}
use borrow.Author.Tests.{lt-ltb, le-ltb}
use Rattle.form_statements.proofs.extents.judged.Goals as goal
use Rattle.form_statements.proofs.extents.judged.Goals.{in_default-via-in-Some+else-b-x, in_default-via-in_default}

pub returns-then-not-miscounted : goal.returns-then-not-miscounted
unfolding judged
returns-then-not-miscounted c = search rules

pub returns-in-Some : goal.returns-in-Some
unfolding judged first_of
returns-in-Some c = rw (← c.miscounted.ensures, c.if-not-miscounted.false, c.in-Some.is, le-ltb _ _ c.if-b-x.true)

pub returns-in_default : goal.returns-in_default
unfolding judged first_of
returns-in_default c = rw (← c.miscounted.ensures, c.if-not-miscounted.false) (elim c.in_default.branch [
  | in_default-via-in-Some+else-b-x w ↦ rw (w.in-Some.is, lt-ltb _ _ w.if-b-x.false)
  | in_default-via-in_default w ↦ search rules
])
