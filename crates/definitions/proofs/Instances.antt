-- That none of it is empty: an accepted module with a pair through two calls, which stands in its report and which its chain reaches; a module
-- that is refused; refusal 1; and that the retired test of 13 is a test.
use Prim.Native.Nat.{ℕ}
use mathlib.Core.List.{List, [], ◌∷◌}
use mathlib.Core.Path.{◌≡◌, refl}
use mathlib.Core.Option.{none, some}
use lib.Dec.{lit<}
use Rattle.definitions.specs.Limits.{version_1, version_1_sound}
use Rattle.definitions.specs.Checks.{refusal, fine, refused}
use Rattle.definitions.specs.Roles.{C}
use Rattle.definitions.specs.Origin.{nowhere}
use Rattle.definitions.specs.Ends.{glob, Pair}
use Rattle.definitions.specs.Pairs.{no_pairs}
use Rattle.definitions.specs.State.{State, Operand}
use Rattle.definitions.specs.Report.{section_in}
use Rattle.definitions.specs.Analyse.{analyse}
use Rattle.definitions.specs.Answer.{run_outcome}
use Rattle.definitions.specs.Chains.{Chained, Mem, back, onto}
use Rattle.definitions.specs.Run.{run}
use Rattle.definitions.proofs.Retired.{tested_carry, tested_carried}
use Rattle.definitions.proofs.Theorems.{demand_3}

-- function 0 samples its arguments, 1 calls it with its own argument and global 1, 2 calls that with an Access of global 3
two_calls : List ℕ
two_calls =
    0 ∷ 0 ∷ 0 ∷ 192 ∷ 1 ∷ 0 ∷ 0 ∷ 4 ∷ 0 ∷ 3 ∷  -- header
    10 ∷ 10 ∷ 10 ∷ 10 ∷  -- spaces
    0 ∷ 0 ∷ 0 ∷ 63 ∷ 0 ∷ 0 ∷ 2 ∷ 0 ∷ 4 ∷ 0 ∷ 8 ∷ 0 ∷ 0 ∷ 0 ∷ 0 ∷ 0 ∷ 0 ∷  -- function 0
    1 ∷ 1 ∷  -- arguments
    1 ∷ 0 ∷ 0 ∷ 0 ∷ 0 ∷ 0 ∷ 0 ∷ 0 ∷  -- 0 FunctionArgument
    1 ∷ 0 ∷ 0 ∷ 1 ∷ 0 ∷ 0 ∷ 0 ∷ 0 ∷  -- 1 FunctionArgument
    0 ∷ 0 ∷ 0 ∷ 0 ∷ 0 ∷ 0 ∷ 0 ∷ 0 ∷  -- 2 Literal
    13 ∷ 1 ∷ 0 ∷ 0 ∷ 0 ∷ 0 ∷ 0 ∷ 8 ∷  -- 3 ImageSample
    0 ∷ 0 ∷ 0 ∷ 1 ∷ 0 ∷ 2 ∷ 255 ∷ 255 ∷ 255 ∷ 255 ∷ 255 ∷ 255 ∷ 255 ∷ 255 ∷ 255 ∷ 255 ∷  -- operands
    0 ∷ 0 ∷ 0 ∷ 44 ∷ 0 ∷ 0 ∷ 1 ∷ 0 ∷ 2 ∷ 0 ∷ 2 ∷ 0 ∷ 1 ∷ 0 ∷ 0 ∷ 0 ∷ 0 ∷  -- function 1
    1 ∷  -- arguments
    1 ∷ 0 ∷ 0 ∷ 0 ∷ 0 ∷ 0 ∷ 0 ∷ 0 ∷  -- 0 FunctionArgument
    2 ∷ 0 ∷ 0 ∷ 1 ∷ 0 ∷ 0 ∷ 0 ∷ 0 ∷  -- 1 GlobalVariable
    0 ∷ 0 ∷ 0 ∷ 1 ∷  -- operands
    6 ∷ 0 ∷ 0 ∷ 0 ∷ 0 ∷ 1 ∷ 0 ∷ 0 ∷ 0 ∷ 2 ∷  -- 0 Call
    0 ∷ 0 ∷ 0 ∷ 63 ∷ 0 ∷ 0 ∷ 0 ∷ 0 ∷ 3 ∷ 0 ∷ 3 ∷ 0 ∷ 2 ∷ 0 ∷ 0 ∷ 0 ∷ 0 ∷  -- function 2
    2 ∷ 0 ∷ 0 ∷ 3 ∷ 0 ∷ 0 ∷ 0 ∷ 0 ∷  -- 0 GlobalVariable
    0 ∷ 0 ∷ 0 ∷ 0 ∷ 0 ∷ 0 ∷ 0 ∷ 0 ∷  -- 1 Literal
    5 ∷ 0 ∷ 0 ∷ 0 ∷ 0 ∷ 0 ∷ 0 ∷ 2 ∷  -- 2 Access
    0 ∷ 0 ∷ 0 ∷ 1 ∷ 0 ∷ 2 ∷  -- operands
    7 ∷ 0 ∷ 0 ∷ 0 ∷ 0 ∷ 2 ∷ 0 ∷ 0 ∷ 0 ∷ 0 ∷  -- 0 Block
    6 ∷ 0 ∷ 0 ∷ 1 ∷ 0 ∷ 2 ∷ 0 ∷ 2 ∷ 0 ∷ 1 ∷  -- 1 Call
    []

two_calls_report : List ℕ
two_calls_report =
    0 ∷ 0 ∷ 0 ∷ 144 ∷ 1 ∷ 0 ∷ 4 ∷ 0 ∷ 3 ∷  -- header
    255 ∷ 255 ∷ 0 ∷ 0 ∷ 0 ∷ 4 ∷ 0 ∷ 0 ∷ 0 ∷ 1 ∷  -- function 0
    0 ∷ 0 ∷ 0 ∷ 0 ∷  -- uses
    1 ∷ 1 ∷ 0 ∷ 0 ∷ 0 ∷ 1 ∷  -- mixed pair
    255 ∷ 255 ∷ 0 ∷ 0 ∷ 0 ∷ 0 ∷ 1 ∷ 255 ∷ 255 ∷  -- 0
    255 ∷ 255 ∷ 0 ∷ 0 ∷ 0 ∷ 0 ∷ 1 ∷ 255 ∷ 255 ∷  -- 1
    255 ∷ 255 ∷ 0 ∷ 0 ∷ 0 ∷ 0 ∷ 1 ∷ 255 ∷ 255 ∷  -- 2
    255 ∷ 255 ∷ 0 ∷ 0 ∷ 0 ∷ 0 ∷ 0 ∷ 255 ∷ 255 ∷  -- 3
    255 ∷ 255 ∷ 0 ∷ 0 ∷ 0 ∷ 2 ∷ 0 ∷ 0 ∷ 0 ∷ 1 ∷  -- function 1
    0 ∷ 1 ∷ 0 ∷ 0 ∷  -- uses
    1 ∷ 0 ∷ 0 ∷ 0 ∷ 0 ∷ 1 ∷  -- mixed pair
    255 ∷ 255 ∷ 0 ∷ 0 ∷ 0 ∷ 0 ∷ 1 ∷ 255 ∷ 255 ∷  -- 0
    0 ∷ 1 ∷ 0 ∷ 0 ∷ 0 ∷ 0 ∷ 1 ∷ 0 ∷ 1 ∷  -- 1
    255 ∷ 255 ∷ 0 ∷ 0 ∷ 0 ∷ 3 ∷ 0 ∷ 1 ∷ 0 ∷ 0 ∷  -- function 2
    0 ∷ 1 ∷ 0 ∷ 1 ∷  -- uses
    0 ∷ 3 ∷ 0 ∷ 1 ∷  -- pair
    0 ∷ 0 ∷ 0 ∷ 0 ∷ 0 ∷ 0 ∷ 1 ∷ 0 ∷ 3 ∷  -- 0
    255 ∷ 255 ∷ 0 ∷ 0 ∷ 0 ∷ 0 ∷ 1 ∷ 255 ∷ 255 ∷  -- 1
    0 ∷ 0 ∷ 0 ∷ 0 ∷ 0 ∷ 0 ∷ 1 ∷ 0 ∷ 3 ∷  -- 2
    []

accepted : analyse version_1 two_calls ≡ fine two_calls_report
unfolding run two_calls two_calls_report
accepted = refl

pair : Pair
pair = record { image = glob 3; sampler = glob 1 }

-- the chain, written down: Call 1 of function 2, Call 0 of function 1, the sampling 3 of function 0
chain : Chained two_calls 2 pair
unfolding run two_calls pair back onto
chain = record {
  chain = record { calls = 1 ∷ 0 ∷ []; sampling = 3 };
  from = (lit< tt, refl, (lit< tt, refl, (lit< tt, refl)));
  traces = (refl, refl);
}

-- by demand 3 the pair stands in the report for it
stands : Mem pair (section_in two_calls_report 2).summary.lists.pairs
unfolding run two_calls pair
stands = ((demand_3 version_1 version_1_sound two_calls two_calls_report accepted 2 (lit< tt)).pairs_are pair).1 (chain, refl)

-- a callee with the mixed pair (argument 0, global 1), called with a local
called_with_local : List ℕ
called_with_local =
    0 ∷ 0 ∷ 0 ∷ 129 ∷ 1 ∷ 0 ∷ 0 ∷ 4 ∷ 0 ∷ 2 ∷  -- header
    10 ∷ 10 ∷ 10 ∷ 10 ∷  -- spaces
    0 ∷ 0 ∷ 0 ∷ 62 ∷ 0 ∷ 0 ∷ 1 ∷ 0 ∷ 4 ∷ 0 ∷ 8 ∷ 0 ∷ 0 ∷ 0 ∷ 0 ∷ 0 ∷ 0 ∷  -- function 0
    0 ∷  -- arguments
    1 ∷ 0 ∷ 0 ∷ 0 ∷ 0 ∷ 0 ∷ 0 ∷ 0 ∷  -- 0 FunctionArgument
    2 ∷ 0 ∷ 0 ∷ 1 ∷ 0 ∷ 0 ∷ 0 ∷ 0 ∷  -- 1 GlobalVariable
    0 ∷ 0 ∷ 0 ∷ 0 ∷ 0 ∷ 0 ∷ 0 ∷ 0 ∷  -- 2 Literal
    13 ∷ 1 ∷ 0 ∷ 0 ∷ 0 ∷ 0 ∷ 0 ∷ 8 ∷  -- 3 ImageSample
    0 ∷ 0 ∷ 0 ∷ 1 ∷ 0 ∷ 2 ∷ 255 ∷ 255 ∷ 255 ∷ 255 ∷ 255 ∷ 255 ∷ 255 ∷ 255 ∷ 255 ∷ 255 ∷  -- operands
    0 ∷ 0 ∷ 0 ∷ 49 ∷ 0 ∷ 0 ∷ 0 ∷ 0 ∷ 3 ∷ 0 ∷ 1 ∷ 0 ∷ 1 ∷ 0 ∷ 0 ∷ 0 ∷ 0 ∷  -- function 1
    2 ∷ 0 ∷ 0 ∷ 3 ∷ 0 ∷ 0 ∷ 0 ∷ 0 ∷  -- 0 GlobalVariable
    0 ∷ 0 ∷ 0 ∷ 0 ∷ 0 ∷ 0 ∷ 0 ∷ 0 ∷  -- 1 Literal
    3 ∷ 0 ∷ 0 ∷ 0 ∷ 0 ∷ 0 ∷ 0 ∷ 0 ∷  -- 2 LocalVariable
    0 ∷ 2 ∷  -- operands
    6 ∷ 0 ∷ 0 ∷ 0 ∷ 0 ∷ 1 ∷ 0 ∷ 0 ∷ 0 ∷ 1 ∷  -- 0 Call
    []

not_accepted : analyse version_1 called_with_local ≡ refused (refusal 7 1 2)
unfolding run called_with_local
not_accepted = refl

-- 9.2 one byte of lent report too few, and one of working memory
short_report : run_outcome version_1 two_calls 65535 22016 ≡ refused (refusal 1 0 0)
unfolding run
short_report = refl

short_work : run_outcome version_1 two_calls 65536 22015 ≡ refused (refusal 1 0 0)
unfolding run
short_work = refl

-- 3.4 the retired test is a test: a record that two operands hand a global each would be refused with 13
two_that_carry : List Operand
two_that_carry = record { does = C; target = 0 } ∷ record { does = C; target = 1 } ∷ []

two_globals : State
two_globals = record {
  known =
      record { origin = nowhere; requirements = 0; assignable = some 0 }
      ∷ record { origin = nowhere; requirements = 0; assignable = some 1 }
      ∷ [];
  counts = 0 ∷ 0 ∷ [];
  uses = 0 ∷ 0 ∷ [];
  lists = no_pairs;
}

handed_twice : tested_carried (refusal 13 0 2) two_that_carry two_globals none ≡ refused (refusal 13 0 2)
unfolding run tested_carried tested_carry two_that_carry two_globals
handed_twice = refl
