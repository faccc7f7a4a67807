-- 01, 6: a function, and the module.
use Rattle.std.specs.Prelude.{ℕ, zero, suc, List, [], ◌∷◌, ◌++◌, map, cond, ltb, eqb, length, get_or, set}
use Rattle.std.proofs.Math.Option.{Option, none, some}
use Rattle.definitions.specs.Bytes.{range}
use Rattle.definitions.specs.Limits.{Limits}
use Rattle.definitions.specs.Module.{functions, expressions, initialisers, initialiser, named, named_at}
use Rattle.definitions.specs.Codes.{QUERY}
use Rattle.definitions.specs.Checks.{refusal, Checked, fine, ◌>>=◌, Check, ◌⇒◌, first, each, through}
use Rattle.definitions.specs.Roles.{R}
use Rattle.definitions.specs.Form.{form}
use Rattle.definitions.specs.State.{State, start, known_of, refer}
use Rattle.definitions.specs.Summary.{Entry, Section}
use Rattle.definitions.specs.Expressions.{expression_step}
use Rattle.definitions.specs.Walk.{Walked, walk_all}
use Rattle.definitions.specs.Report.{report}

-- 6.1 its initialisers, each an operand R
unfoldable pub initialise : List ℕ → ℕ → ℕ → State → State
initialise m f i s = refer (record { does = R; target = initialiser m f i }) s

-- 6.1 its named expressions in order: where the assignable global of one has no use at all, it gets QUERY
unfoldable pub query_unused : Option ℕ → List ℕ → List ℕ
query_unused none uses = uses
query_unused (some g) uses = cond (eqb (get_or uses g QUERY) 0) (set uses g QUERY) uses

unfoldable pub name : List ℕ → ℕ → ℕ → State → State
name m f i s = record {
  known = s.known;
  counts = s.counts;
  uses = query_unused (known_of s (named_at m f i)).assignable s.uses;
  lists = s.lists;
}

-- 6.1 Steps of a function: its expressions in order; its initialisers; its statements; then its named expressions
unfoldable pub function_run : Limits → List ℕ → List Section → ℕ → Checked Walked
function_run L m done f = do
  s ← each (expression_step L m done f) (range 0 (expressions m f)) (start m f)
  w ← walk_all L m done f (through (initialise m f) (range 0 (initialisers m f)) s)
  fine (record { state = through (name m f) (range 0 (named m f)) w.state; outcome = w.outcome })

-- 6.2 Summary. A function's origin, requirements and may-kill are those of the outcome of its statements
unfoldable pub entry_of : State → ℕ → Entry
entry_of s e = record { known = known_of s e; count = get_or s.counts e 0 }

unfoldable pub section_of : List ℕ → ℕ → Walked → Section
section_of m f w = record {
  summary = record {
    origin = w.outcome.origin;
    requirements = w.outcome.requirements;
    may_kill = w.outcome.may_kill;
    uses = w.state.uses;
    lists = w.state.lists;
  };
  entries = map (entry_of w.state) (range 0 (expressions m f));
}

-- 6.4 14 (f, 0), last of all in a function: with this function's section the report would pass 65,536 bytes
unfoldable pub report_fits : Limits → List ℕ → ℕ → List Section → List Check
report_fits L m f done = (ltb L.report (length (report L m done)) ⇒ refusal 14 f 0) ∷ []

-- 6.3 Functions are taken in order of number: the sections of the first n
unfoldable pub sections : Limits → List ℕ → ℕ → Checked (List Section)
sections L m zero = fine []
sections L m (suc f) = do
  done ← sections L m f
  w ← function_run L m done f
  _ ← first (report_fits L m f (done ++ (section_of m f w ∷ [])))
  fine (done ++ (section_of m f w ∷ []))

-- 8.2 The form of the whole module; only then the rules, function by function and step by step
unfoldable pub accepted : Limits → List ℕ → Checked (List Section)
accepted L m = do
  _ ← form L m
  sections L m (functions m)

unfoldable pub analyse : Limits → List ℕ → Checked (List ℕ)
analyse L m = do
  done ← accepted L m
  fine (report L m done)
