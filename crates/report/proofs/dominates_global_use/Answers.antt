-- What a zip gives, test by test.
use mathlib.Core.Path.{◌∙◌, sym}
use lib.Bits.{bit_and}
use lib.Dec.{eqb}
use Prim.Native.Nat.{ℕ}
use Rattle.std.proofs.Common.{tests, rules}
use Rattle.std.proofs.lemmas.Iterator.{YieldsList-from_slice, YieldsList-from_zip}
use Rattle.std.proofs.lemmas.Iterator.Search.{all_from_yields_List}
use Rattle.report.proofs.Cover.{cover_all}
use Rattle.report.proofs.dominates_global_use.Goals as goal

pub returns : goal.returns
returns c =
    all_from_yields_List (λ (p : ℕ × ℕ). eqb (bit_and p.0 p.1) p.1) c.all.new.self _ _ c.all.ensures.ran
    (YieldsList-from_zip (YieldsList-from_slice c.args.a.now cc) (YieldsList-from_slice c.args.b.now cc))
    (λ x b q k. search (rules, tests))
    ∙ sym (cover_all c.args.a.now c.args.b.now)
