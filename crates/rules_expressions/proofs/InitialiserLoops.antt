-- The loops over the initialisers and the named expressions of a function (01, 6.1): i of them are done, and the rest
-- gives the whole.
use Prim.Native.Nat.{ℕ, ◌+◌, ◌*◌, ◌-◌, ◌≤◌, ◌<◌}
use native.Mathlib.Omega.{arith}
use mathlib.Core.Path.{◌≡◌, ap, ◌∙◌}
use mathlib.Core.List.{List}
use lib.ListN.{length}
use Rattle.definitions.specs.Bytes.{be16, range}
use Rattle.definitions.specs.Codes.{READ}
use Rattle.definitions.specs.Module.{initialiser, initialisers, named_at, named}
use Rattle.definitions.specs.Checks.{through}
use Rattle.definitions.specs.Origin.{Origin}
use Rattle.module.specs.declared.Sheet.{Sheet}
use Rattle.module.proofs.Places.{bounds}
use Rattle.memory.specs.Layout.{uses_at, size}
use Rattle.memory.specs.View.{count_at}
use Rattle.memory.specs.Facts.{ValidLine, ValidCount, MemoryResult, ReferenceResult}
use Rattle.memory.specs.Changes.{mask_of, referred, refer_line, with_query}
use Rattle.memory.proofs.Loops.{Doing, doing_start, doing_again, doing_done}
use Rattle.memory.proofs.OperandReferences.{count_after}
use Rattle.rules_expressions.specs.Facts.{FormedSheet}
use Rattle.rules_expressions.specs.Steps.{initialise_line, name_line, ValidInitialisers}
use Rattle.rules_expressions.proofs.FromForm.{sheet_of}

-- initialisers: i of them are referred to
pub record InitialiserLoop (m : List ℕ) (s : Sheet) (w₀ w : List ℕ) (i : ℕ) : Type 0 where
  pub sheet : FormedSheet m s
  pub long : length w ≡ size
  pub room : (y : ℕ) → y < s.expressions → count_at w (9 * y) + (s.initialisers - i) < 4294967296
  pub run : Doing (initialise_line m s.function) s.initialisers w₀ w i

pub initialisers_start : (m : List ℕ) (s : Sheet) (w : List ℕ) → ValidInitialisers m s w → length w ≡ size → InitialiserLoop m s w w 0
initialisers_start m s w h l = record {
  sheet = h.sheet;
  long = l;
  room = λ y k. omega (arith, h.room y k);
  run = doing_start (initialise_line m s.function) s.initialisers w;
}

module _ (m : List ℕ) (s : Sheet) (w₀ w : List ℕ) (i : ℕ) (h : InitialiserLoop m s w₀ w i) (k : i < s.initialisers) (x : ℕ) (is : x ≡ initialiser m s.function i) where
  initialiser_in : x < s.expressions
  initialiser_in =
      let l = (bounds m s h.sheet.stands).laid in
      omega (arith, (sheet_of m s h.sheet).each_initialiser i (omega (arith, l.initialisers_are)), l.expressions_are)

  pub initialiser_countable : ValidCount w x
  unfolding size
  initialiser_countable = record {
    long = h.long;
    here = omega (arith, initialiser_in, (bounds m s h.sheet.stands).few_expressions);
    room = omega (arith, h.room x initialiser_in);
  }

  line_is : referred READ w x ≡ initialise_line m s.function i w
  unfolding initialise_line refer_line mask_of
  line_is = ap (referred READ w) is

  pub initialisers_again : (w' : List ℕ) (o : Origin) → ReferenceResult w w' x 1 o → InitialiserLoop m s w₀ w' (i + 1)
  unfolding uses_at size READ
  initialisers_again w' o r = record {
    sheet = h.sheet;
    long = r.long;
    room = λ y q. rw r.is (omega (arith, h.room y q, count_after 1 w x y (omega (arith, q, (bounds m s h.sheet.stands).few_expressions)) (omega (arith, initialiser_in, (bounds m s h.sheet.stands).few_expressions, h.long))));
    run = doing_again (initialise_line m s.function) s.initialisers w₀ w w' i h.run k (r.is ∙ line_is);
  }

pub initialisers_done : (m : List ℕ) (s : Sheet) (w₀ w : List ℕ) (i : ℕ) → InitialiserLoop m s w₀ w i → s.initialisers ≤ i
    → MemoryResult w (through (initialise_line m s.function) (range 0 (initialisers m s.function)) w₀)
initialisers_done m s w₀ w i h k = record {
  is = doing_done (initialise_line m s.function) s.initialisers w₀ w i h.run k
      ∙ ap (λ n. through (initialise_line m s.function) (range 0 n) w₀) (bounds m s h.sheet.stands).laid.initialisers_are;
  long = h.long;
}

-- named expressions: i of them are asked
pub record NamedLoop (m : List ℕ) (s : Sheet) (w₀ w : List ℕ) (i : ℕ) : Type 0 where
  pub sheet : FormedSheet m s
  pub long : length w ≡ size
  pub run : Doing (name_line m s.function) s.named w₀ w i

pub named_start : (m : List ℕ) (s : Sheet) (w : List ℕ) → FormedSheet m s → length w ≡ size → NamedLoop m s w w 0
named_start m s w h l = record { sheet = h; long = l; run = doing_start (name_line m s.function) s.named w }

module _ (m : List ℕ) (s : Sheet) (w₀ w : List ℕ) (i : ℕ) (h : NamedLoop m s w₀ w i) (k : i < s.named) (x : ℕ) (is : x ≡ named_at m s.function i) where
  named_in : x < s.expressions
  named_in =
      let l = (bounds m s h.sheet.stands).laid in
      omega (arith, (sheet_of m s h.sheet).each_named i (omega (arith, l.named_are)), l.expressions_are)

  pub named_line : ValidLine w x
  unfolding size
  named_line = record { long = h.long; here = omega (arith, named_in, (bounds m s h.sheet.stands).few_expressions) }

  query_is : with_query w (be16 w (9 * x + 7)) ≡ name_line m s.function i w
  unfolding name_line
  query_is = ap (λ y. with_query w (be16 w (9 * y + 7))) is

  pub named_again : (w' : List ℕ) → MemoryResult w' (with_query w (be16 w (9 * x + 7))) → NamedLoop m s w₀ w' (i + 1)
  named_again w' r = record {
    sheet = h.sheet;
    long = r.long;
    run = doing_again (name_line m s.function) s.named w₀ w w' i h.run k (r.is ∙ query_is);
  }

pub named_done : (m : List ℕ) (s : Sheet) (w₀ w : List ℕ) (i : ℕ) → NamedLoop m s w₀ w i → s.named ≤ i
    → MemoryResult w (through (name_line m s.function) (range 0 (named m s.function)) w₀)
named_done m s w₀ w i h k = record {
  is = doing_done (name_line m s.function) s.named w₀ w i h.run k
      ∙ ap (λ n. through (name_line m s.function) (range 0 n) w₀) (bounds m s h.sheet.stands).laid.named_are;
  long = h.long;
}
