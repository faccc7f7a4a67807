-- Two words that are equal are four bytes that are equal, and so are the numbers (Known).
use mathlib.Core.Path.{sym, ◌∙◌}
use native.Mathlib.Omega.{arith}
use borrow.Author.Rules.{rules}
use borrow.Author.Tests.{eqb-true}
use Rattle.definitions.specs.Bytes.{byte}
use Rattle.rules_pairs.proofs.Known.{same_words}
use Rattle.rules_pairs.proofs.calls.same.Goals as goal

pub returns-then-globals : goal.returns-then-globals
unfolding byte
returns-then-globals c = λ h. same_words _ _ _ _ (record { small = λ i. omega (arith, c.type_inv.report i) }) (record { small = λ i. omega (arith, c.fits-work i) }) (search rules) (sym c.get32.ensures ∙ (eqb-true _ _ h ∙ c.get32-then-globals.ensures))
