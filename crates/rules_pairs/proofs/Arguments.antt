-- Every argument in a function's lists is one of its arguments: so a Call has an operand for each argument in its
-- callee's lists.
use Prim.Native.Nat.{ℕ, ◌<◌, ◌≤◌}
use mathlib.Core.Path.{◌≡◌}
use mathlib.Core.List.{List}
use Rattle.definitions.specs.Limits.{Limits}
use Rattle.definitions.specs.Checks.{fine}
use Rattle.definitions.specs.Module.{globals, functions, arguments}
use Rattle.definitions.specs.Ends.{End, glob, arg, Pair}
use Rattle.definitions.specs.Summary.{Section}
use Rattle.definitions.specs.Analyse.{sections}
use Rattle.definitions.proofs.Formed.{Formed}
use Rattle.definitions.proofs.EndsIn.{EndIn, lists_in}
use Rattle.definitions.proofs.Enter.{Has}
use Rattle.definitions.proofs.Step.{lists_of}
use Rattle.rules_pairs.specs.Tracing.{EndBelow}

abbrev pub PairEndsBelow : ℕ → Pair → Type 0
PairEndsBelow n x = EndBelow n x.image × EndBelow n x.sampler

in_below : (g n : ℕ) (x : End) → EndIn g n x → EndBelow n x
in_below g n (glob y) h = tt
in_below g n (arg a) h = h

pub lists_below : (L : Limits) (m : List ℕ) → Formed L m → (n : ℕ) → n ≤ functions m → (d : List Section) → sections L m n ≡ fine d
    → (g : ℕ) → g < n → (x : Pair) → Has x (lists_of d g) → PairEndsBelow (arguments m g) x
lists_below L m formed n h d e g lt x has =
    let i = lists_in L m formed n h d e g lt x has in
    (in_below (globals m) (arguments m g) x.image i.0, in_below (globals m) (arguments m g) x.sampler i.1)
