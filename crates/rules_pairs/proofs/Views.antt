-- What a step over the lists is to the state of the definitions (memory, View): the lists are the step's, all else is
-- as it was.
use Prim.Native.Nat.{ℕ, ◌-◌, ◌≤◌, ◌<◌}
use native.Mathlib.Omega.{arith}
use mathlib.Core.Path.{◌≡◌, refl, sym, ap, ◌∙◌, subst}
use mathlib.Core.List.{List}
use Rattle.std.specs.Prelude.{Result, Ok, Err}
use lib.ListN.{length}
use Rattle.definitions.specs.Limits.{version_1}
use Rattle.definitions.specs.Checks.{Checked, fine, refused, ◌>>=◌}
use Rattle.definitions.specs.Chains.{Ascending}
use Rattle.definitions.specs.Pairs as pairs
use Rattle.definitions.specs.State.{State}
use Rattle.definitions.specs.Report.{records}
use Rattle.definitions.specs.Module.{functions, expressions}
use Rattle.definitions.proofs.Formed.{Formed}
use Rattle.memory.specs.Layout.{uses_at, pairs_at, mixed_at, sections_at, size}
use Rattle.memory.specs.View.{Shape, viewed}
use Rattle.memory.specs.Changes.{table}
use Rattle.memory.specs.Facts.{ValidShape}
use Rattle.memory.proofs.View as view
use Rattle.memory.proofs.View.{listing, only_lists}
use Rattle.memory.proofs.Sections.{outside_of}
use Rattle.vocabulary.specs.declared.refusal.Refusal.{Refusal}
use Rattle.vocabulary.specs.Said.{refusal_said}
use Rattle.rules_pairs.specs.Bytes.{listed}
use Rattle.rules_pairs.specs.Lists.{lists_in, ValidLists, ListsResult}
use Rattle.rules_pairs.specs.States.{shape_of, state_of}
use Rattle.rules_pairs.specs.declared.lists.Lists.{Lists}

-- the lists of the state are the lists in memory
pub viewed_lists : (h : Shape) (w : List ℕ) (l : Lists) → h.pairs ≡ l.pairs → h.mixed ≡ l.mixed → (viewed h w).lists ≡ lists_in l w
unfolding viewed lists_in listed
viewed_lists h w l p q = rw (p, q)

pub lists_of_state : (m : List ℕ) (f e : ℕ) (l : Lists) (w : List ℕ) → (state_of m f e l w).lists ≡ lists_in l w
unfolding state_of shape_of
lists_of_state m f e l w = viewed_lists (shape_of m f e l) w l refl refl

-- the memory has room for what is known so far
pub shape_fits : (m : List ℕ) (f : ℕ) (w : List ℕ) (e : ℕ) (l : Lists) → Formed version_1 m → f < functions m → ValidLists w l → e ≤ expressions m f → ValidShape (shape_of m f e l)
unfolding shape_of version_1 uses_at pairs_at mixed_at sections_at
shape_fits m f w e l formed present valid k = record {
  known_in = k;
  expressions_in = omega (arith, (formed.each_sheet f present).few_expressions);
  globals_in = omega (arith, formed.few_globals);
  pairs_in = omega (arith, valid.few_pairs);
  mixed_in = omega (arith, valid.few_mixed);
}

-- none at the start of a function
pub stand_none : (w : List ℕ) → length w ≡ size → ValidLists w (record { pairs = 0; mixed = 0 })
unfolding listed records version_1
stand_none w e = record { long = e; few_pairs = omega arith; few_mixed = omega arith; pairs_ascend = tt; mixed_ascend = tt }

-- steps that leave the lists alone leave them standing
pub stand_same : (w w' : List ℕ) (l : Lists) → ValidLists w l → length w' ≡ size → lists_in l w' ≡ lists_in l w → ValidLists w' l
unfolding lists_in
stand_same w w' l s long e = record {
  long = long;
  few_pairs = s.few_pairs;
  few_mixed = s.few_mixed;
  pairs_ascend = subst Ascending (sym (ap (λ (x : pairs.Lists). x.pairs) e)) s.pairs_ascend;
  mixed_ascend = subst Ascending (sym (ap (λ (x : pairs.Lists). x.mixed) e)) s.mixed_ascend;
}

-- the state after an answer
abbrev pub state_said : Shape → Result Lists Refusal → List ℕ → Checked State
state_said h (Ok l) w = fine (viewed (listing h l.pairs l.mixed) w)
state_said h (Err r) w = refused (refusal_said r)

module _ (h : Shape) (f : ValidShape h) (w : List ℕ) (o : Checked pairs.Lists) (w' : List ℕ) where
  pub viewed_after : (l : Lists) → ListsResult w o w' (Ok l) → viewed (listing h l.pairs l.mixed) w' ≡ view.listed (lists_in l w') (viewed h w)
  unfolding pairs_at sections_at
  viewed_after l a =
      only_lists h f w w' pairs_at (sections_at - pairs_at) l.pairs l.mixed (outside_of w w' pairs_at sections_at (omega arith) a.below a.above) (omega arith) (omega arith)
      ∙ ap (λ (x : pairs.Lists). view.listed x (viewed h w)) (viewed_lists (listing h l.pairs l.mixed) w' l refl refl)

  -- the step's outcome, as a step of the state
  pub state_after : (r : Result Lists Refusal) → ListsResult w o w' r → state_said h r w' ≡ (o >>= λ l. fine (view.listed l (viewed h w)))
  unfolding ◌>>=◌
  state_after (Ok l) a = ap fine (viewed_after l a) ∙ ap (λ (x : Checked pairs.Lists). x >>= λ k. fine (view.listed k (viewed h w))) a.said
  state_after (Err x) a = ap (λ (y : Checked pairs.Lists). y >>= λ k. fine (view.listed k (viewed h w))) a.said

  pub table_after : (r : Result Lists Refusal) → ListsResult w o w' r → table w' ≡ table w
  unfolding table
  table_after r a = a.above
