-- `fast::quick_accepts_leaf`: its sub, its end and its owner, and then what is found of its uses.
use Rattle.std.proofs.Common.{rules}
use Rattle.form_statements.proofs.QuickStatements.{leaf_passes}
use borrow.Author.Tests.{tests}
use Rattle.form_statements.proofs.fast.quick_accepts_leaf.Goals as goal

pub returns-then-kind-eq-EMIT : goal.returns-then-kind-eq-EMIT
returns-then-kind-eq-EMIT c = λ e. leaf_passes _ _ _ _ _ c.requires.0 c.requires.1 (search (rules, tests)) (search (rules, tests)) (search (rules, tests)) (c.quick_accepts_emit.ensures e)

pub returns-else-kind-eq-EMIT : goal.returns-else-kind-eq-EMIT
returns-else-kind-eq-EMIT c = λ e. leaf_passes _ _ _ _ _ c.requires.0 c.requires.1 (search (rules, tests)) (search (rules, tests)) (search (rules, tests)) (c.quick_accepts_uses.ensures e)
