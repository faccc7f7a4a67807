-- `OpenExtents::open`: one extent more.
use Rattle.std.proofs.Common.{arith}
use Rattle.form_statements.proofs.ExtentStacks.{at_stored, at_other, opened_one, next_place}
use Rattle.form_statements.specs.Extents.{opened}
use lib.ListN.{length-set}
use Rattle.form_statements.proofs.extents.OpenExtents.open.Goals as goal

pub invariant_of-self : goal.invariant_of-self
invariant_of-self c = record {
  statements_long = simp length-set c.self.invariant.statements_long;
  kinds_long = simp length-set c.self.invariant.kinds_long;
  ends_long = simp length-set c.self.invariant.ends_long;
  holds_long = simp length-set c.self.invariant.holds_long;
  shallow = next_place _ _ _ c.self.view_is c.requires;
}

pub returns : goal.returns
returns c = rw (← c.self.view_is) (opened_one _ _ _ _
    (λ i h. at_other _ _ _ _ _ _ (opened c.args.statement c.args.kind c.args.end) (λ q. omega arith))
    (at_stored _ _ _ _ _ _ (opened c.args.statement c.args.kind c.args.end) c.self.invariant (next_place _ _ _ c.self.view_is c.requires)))
