-- One expression (01, 3.8): each part of the code's step against the definitions' step, from the last part to the
-- first.
use Prim.Native.Nat.{ℕ, ◌+◌, ◌*◌, ◌<◌}
use native.Mathlib.Omega.{arith}
use mathlib.Core.Logic.{◌≢◌}
use mathlib.Core.Bool.{cond}
use mathlib.Core.Option.{Option}
use mathlib.Core.Path.{◌≡◌, refl, ap, ◌∙◌, sym, subst}
use mathlib.Core.List.{List, [], ◌∷◌, ◌++◌}
use borrow.Author.Tests.{eq-eqb, ne_eqb}
use lib.Dec.{eqb}
use Rattle.definitions.specs.Limits.{version_1}
use Rattle.definitions.specs.Module.{expressions, kind, number}
use Rattle.definitions.specs.Origin.{from_expression, or_else}
use Rattle.definitions.specs.Checks.{Checked, fine, refused, ◌>>=◌, first, through}
use Rattle.definitions.specs.Pairs as paper
use Rattle.definitions.specs.State.{State, Operand, known_of, operands_of, refer, refer_all, carried}
use Rattle.definitions.specs.Summary.{Section, summary_of}
use Rattle.definitions.specs.Expressions.{first_origin, own_global, own_origin, access, sampled, with_expression, expression_step, origin_of, requirements_of}
use Rattle.vocabulary.specs.Said.{refusal_said, assignable_said, step_said}
use Rattle.vocabulary.specs.declared.refusal.Refusal as code
use Rattle.std.specs.Prelude as rust
use Rattle.vocabulary.specs.declared.assignable.AssignableGlobal.{AssignableGlobal}
use Rattle.module.specs.declared.Sheet.{Sheet}
use Rattle.module.specs.declared.Expression.{Expression}
use Rattle.memory.specs.Layout.{pairs_at, sections_at}
use Rattle.memory.specs.View.{Shape, count_at, viewed}
use Rattle.memory.specs.Facts.{ValidShape}
use Rattle.memory.specs.Changes.{table}
use Rattle.memory.proofs.Records.{local_count}
use Rattle.memory.proofs.View as view
use Rattle.memory.proofs.Sections.{outside_of}
use Rattle.rules_pairs.specs.declared.lists.Lists.{Lists}
use Rattle.rules_pairs.specs.Lists.{lists_in, listed_said, ValidLists, ValidListsAfter, ListsResult}
use Rattle.rules_pairs.specs.States.{shape_of, state_of}
use Rattle.rules_pairs.proofs.Views.{lists_of_state, shape_fits, stand_same, viewed_after}
use Rattle.rules_expressions.specs.Facts.{FormedExpression, LineResult}
use Rattle.rules_expressions.specs.Steps.{completed, sampled_then_completed, ValidExpression, ExpressionResult}
use Rattle.rules_expressions.proofs.FromForm.{count_is, few}

-- ---- only kind 13 samples

module _ (m : List ℕ) (s : Sheet) (e : ℕ) (x : Expression) (l : Lists) (w : List ℕ) (h : FormedExpression m s e x) where
  pub samples : (w' : List ℕ) (r : rust.Result Lists code.Refusal) → x.kind ≡ 13
      → ListsResult w (paper.sample version_1 m s.function e (lists_in l w)) w' r → ListsResult w (sampled version_1 m s.function e (lists_in l w)) w' r
  unfolding sampled
  samples w' r k a = rw (eq-eqb (kind m s.function e) 13 (sym h.is.kind_is ∙ k)) a

  pub samples_not : ValidLists w l → x.kind ≢ 13 → ListsResult w (sampled version_1 m s.function e (lists_in l w)) w (rust.Ok l)
  unfolding sampled
  samples_not v k = rw (ne_eqb (kind m s.function e) 13 (λ q. k (h.is.kind_is ∙ q))) (record { said = refl; stand = v; long = v.long; below = refl; above = refl })

-- ---- what is known doesn't hang on the lists

refer_all_listed : (k : paper.Lists) (os : List Operand) (s : State) → refer_all os (view.listed k s) ≡ view.listed k (refer_all os s)
unfolding refer_all through refer known_of
refer_all_listed k [] s = refl
refer_all_listed k (o ∷ os) s = refer_all_listed k os (refer o s)

first_origin_listed : (k : paper.Lists) (os : List Operand) (s : State) → first_origin os (view.listed k s) ≡ first_origin os s
unfolding first_origin known_of
first_origin_listed k [] s = refl
first_origin_listed k (o ∷ os) s = ap (or_else (known_of s o.target).origin) (first_origin_listed k os s)

origin_listed : (m : List ℕ) (done : List Section) (f e : ℕ) (k : paper.Lists) (s : State) → origin_of m done f e (view.listed k s) ≡ origin_of m done f e s
unfolding origin_of
origin_listed m done f e k s =
    ap (λ o. cond (own_origin m f e) (from_expression e) (cond (eqb (kind m f e) 4) (summary_of done (number m f e)).origin o)) (first_origin_listed k (operands_of m f e) s)

with_listed : (m : List ℕ) (done : List Section) (f e : ℕ) (k l : paper.Lists) (g : Option ℕ) (s : State)
    → with_expression m done f e l g (view.listed k s) ≡ with_expression m done f e l g s
unfolding with_expression
with_listed m done f e k l g s =
    view.state_is (ap (λ o. s.known ++ (record { origin = o; requirements = requirements_of m done f e; assignable = g } ∷ [])) (origin_listed m done f e k s))
    (ap (λ (z : State). z.counts) (refer_all_listed k (operands_of m f e) s)) (ap (λ (z : State). z.uses) (refer_all_listed k (operands_of m f e) s)) refl

carried_listed : (os : List Operand) (k : paper.Lists) (s : State) (own : Option ℕ) → carried os (view.listed k s) own ≡ carried os s own
unfolding carried known_of
carried_listed os k s own = refl

completed_listed : (m : List ℕ) (done : List Section) (f e : ℕ) (k l : paper.Lists) (s : State) → completed m done f e (view.listed k s) l ≡ completed m done f e s l
unfolding completed
completed_listed m done f e k l s =
    ap (λ g. fine (with_expression m done f e l g (view.listed k s))) (carried_listed (operands_of m f e) k s (own_global m f e))
    ∙ ap fine (with_listed m done f e k l (carried (operands_of m f e) s (own_global m f e)) s)

-- ---- the definitions' step is its parts, in the order of 3.8
step_is : (m : List ℕ) (done : List Section) (f e : ℕ) (z : State) → (first (access m f e z) >>= λ _. sampled_then_completed m done f e z) ≡ expression_step version_1 m done f e z
unfolding expression_step sampled_then_completed completed
step_is m done f e z = refl

module _ (m : List ℕ) (s : Sheet) (w : List ℕ) (x : Expression) (l : Lists) (h : ValidExpression m s w x l) (done : List Section) where
  there : x.index.0 < expressions m s.function
  there = omega (arith, h.operands.expression.there, count_is m s h.operands.expression.sheet)

  fitting : ValidShape (shape_of m s.function x.index.0 l)
  fitting =
      shape_fits m s.function w x.index.0 l h.operands.expression.sheet.formed h.operands.expression.sheet.present h.lists (omega (arith, there))

  -- ---- what it carries, and its line

  -- what the code finds that it carries, of the state at hand
  carried_said : (a : AssignableGlobal)
      → ((g : Shape) → g.known ≡ x.index.0 → assignable_said a ≡ carried (operands_of m s.function x.index.0) (viewed g w) (own_global m s.function x.index.0))
      → assignable_said a ≡ carried (operands_of m s.function x.index.0) (state_of m s.function x.index.0 l w) (own_global m s.function x.index.0)
  unfolding state_of shape_of
  carried_said a c = c (shape_of m s.function x.index.0 l) refl

  line_known : (w' : List ℕ) (g : Option ℕ) → LineResult m s.function done w w' x.index.0 g
      → state_of m s.function (x.index.0 + 1) l w' ≡ with_expression m done s.function x.index.0 (lists_in l w) g (state_of m s.function x.index.0 l w)
  unfolding state_of shape_of
  line_known w' g d =
      d.state (shape_of m s.function x.index.0 l) fitting refl there
      ∙ ap (λ k. with_expression m done s.function x.index.0 k g (viewed (shape_of m s.function x.index.0 l) w)) (lists_of_state m s.function x.index.0 l w)

  lists_same : (w' : List ℕ) (g : Option ℕ) → LineResult m s.function done w w' x.index.0 g → lists_in l w' ≡ lists_in l w
  unfolding with_expression
  lists_same w' g d = sym (lists_of_state m s.function (x.index.0 + 1) l w') ∙ ap (λ (z : State). z.lists) (line_known w' g d)

  pub complete_line : (g : Option ℕ) (w' : List ℕ)
      → carried (operands_of m s.function x.index.0) (state_of m s.function x.index.0 l w) (own_global m s.function x.index.0) ≡ g
      → LineResult m s.function done w w' x.index.0 g
      → ExpressionResult m s.function w w' x.index.0 (rust.Ok l) (completed m done s.function x.index.0 (state_of m s.function x.index.0 l w) (lists_in l w))
  unfolding completed
  complete_line g w' c d = record {
    says = ap fine (line_known w' g d) ∙ ap (λ g. fine (with_expression m done s.function x.index.0 (lists_in l w) g (state_of m s.function x.index.0 l w))) (sym c);
    lists = stand_same w w' l h.lists d.long (lists_same w' g d);
    kept = d.kept;
  }

  pub complete_done : (a : AssignableGlobal) (w' : List ℕ)
      → ((k : Shape) → k.known ≡ x.index.0 → assignable_said a ≡ carried (operands_of m s.function x.index.0) (viewed k w) (own_global m s.function x.index.0))
      → LineResult m s.function done w w' x.index.0 (assignable_said a)
      → ExpressionResult m s.function w w' x.index.0 (rust.Ok l) (completed m done s.function x.index.0 (state_of m s.function x.index.0 l w) (lists_in l w))
  complete_done a w' c d = complete_line (assignable_said a) w' (sym (carried_said a c)) d

  -- ---- its sampling before that
  module _ (w₁ : List ℕ) (p : rust.Result Lists code.Refusal) (a : ListsResult w (sampled version_1 m s.function x.index.0 (lists_in l w)) w₁ p) where
    table_same : table w₁ ≡ table w
    unfolding table
    table_same = a.above

    outcome_is : (o : Checked paper.Lists) → listed_said p w₁ ≡ o → o ≡ sampled version_1 m s.function x.index.0 (state_of m s.function x.index.0 l w).lists
    outcome_is o q = sym q ∙ a.said ∙ ap (sampled version_1 m s.function x.index.0) (sym (lists_of_state m s.function x.index.0 l w))

    pub sample_refused : (r : code.Refusal) → p ≡ rust.Err r
        → ExpressionResult m s.function w w₁ x.index.0 (rust.Err r) (sampled_then_completed m done s.function x.index.0 (state_of m s.function x.index.0 l w))
    unfolding sampled_then_completed ◌>>=◌
    sample_refused r q = record {
      says = ap (λ o. o >>= λ k. completed m done s.function x.index.0 (state_of m s.function x.index.0 l w) k) (outcome_is (refused (refusal_said r)) (ap (λ y. listed_said y w₁) q));
      lists = tt;
      kept = table_same;
    }

    count_same : (y : ℕ) → y < x.index.0 → count_at w₁ (9 * y) ≡ count_at w (9 * y)
    unfolding pairs_at sections_at
    count_same y k =
        local_count w w₁ (9 * y) (λ j n. outside_of w w₁ pairs_at sections_at (omega arith) a.below a.above (9 * y + j) (λ u v. omega (arith, few m s x.index.0 x h.operands.expression)))

    pub valid_after : (k : Lists) → p ≡ rust.Ok k → ValidExpression m s w₁ x k
    valid_after k q = record {
      operands = record {
        expression = h.operands.expression;
        room = λ y n. omega (arith, count_same y n, h.operands.room y n);
      };
      lists = subst (λ y. ValidListsAfter y w₁) q a.stand;
    }

    state_after : (k : Lists) → p ≡ rust.Ok k → state_of m s.function x.index.0 k w₁ ≡ view.listed (lists_in k w₁) (state_of m s.function x.index.0 l w)
    unfolding state_of shape_of
    state_after k q =
        viewed_after (shape_of m s.function x.index.0 l) fitting w (sampled version_1 m s.function x.index.0 (lists_in l w)) w₁ k
        (subst (λ y. ListsResult w (sampled version_1 m s.function x.index.0 (lists_in l w)) w₁ y) q a)

    completed_after : (k : Lists) → p ≡ rust.Ok k
        → completed m done s.function x.index.0 (state_of m s.function x.index.0 k w₁) (lists_in k w₁)
        ≡ sampled_then_completed m done s.function x.index.0 (state_of m s.function x.index.0 l w)
    unfolding sampled_then_completed ◌>>=◌
    completed_after k q =
        ap (λ y. completed m done s.function x.index.0 y (lists_in k w₁)) (state_after k q)
        ∙ completed_listed m done s.function x.index.0 (lists_in k w₁) (lists_in k w₁) (state_of m s.function x.index.0 l w)
        ∙ ap (λ o. o >>= λ y. completed m done s.function x.index.0 (state_of m s.function x.index.0 l w) y) (outcome_is (fine (lists_in k w₁)) (ap (λ y. listed_said y w₁) q))

    pub sample_done : (k : Lists) (w₂ : List ℕ) (r : rust.Result Lists code.Refusal) → p ≡ rust.Ok k
        → ExpressionResult m s.function w₁ w₂ x.index.0 r (completed m done s.function x.index.0 (state_of m s.function x.index.0 k w₁) (lists_in k w₁))
        → ExpressionResult m s.function w w₂ x.index.0 r (sampled_then_completed m done s.function x.index.0 (state_of m s.function x.index.0 l w))
    sample_done k w₂ r q d = record { says = d.says ∙ completed_after k q; lists = d.lists; kept = d.kept ∙ table_same }

  -- ---- its access checks before all else
  module _ (a : rust.Result (Unit {0}) code.Refusal) (c : (g : Shape) → g.known ≡ x.index.0 → step_said a ≡ first (access m s.function x.index.0 (viewed g w))) where
    access_said : step_said a ≡ first (access m s.function x.index.0 (state_of m s.function x.index.0 l w))
    unfolding state_of shape_of
    access_said = c (shape_of m s.function x.index.0 l) refl

    pub access_refused : (r : code.Refusal) → a ≡ rust.Err r
        → ExpressionResult m s.function w w x.index.0 (rust.Err r) (expression_step version_1 m done s.function x.index.0 (state_of m s.function x.index.0 l w))
    unfolding ◌>>=◌
    access_refused r q = record {
      says = ap (λ o. o >>= λ _. sampled_then_completed m done s.function x.index.0 (state_of m s.function x.index.0 l w)) (sym (ap step_said q) ∙ access_said)
          ∙ step_is m done s.function x.index.0 (state_of m s.function x.index.0 l w);
      lists = tt;
      kept = refl;
    }

    pub access_done : (w' : List ℕ) (r : rust.Result Lists code.Refusal) → a ≡ rust.Ok tt
        → ExpressionResult m s.function w w' x.index.0 r (sampled_then_completed m done s.function x.index.0 (state_of m s.function x.index.0 l w))
        → ExpressionResult m s.function w w' x.index.0 r (expression_step version_1 m done s.function x.index.0 (state_of m s.function x.index.0 l w))
    unfolding ◌>>=◌
    access_done w' r q d = record {
      says = d.says
          ∙ ap (λ o. o >>= λ _. sampled_then_completed m done s.function x.index.0 (state_of m s.function x.index.0 l w)) (sym (ap step_said q) ∙ access_said)
          ∙ step_is m done s.function x.index.0 (state_of m s.function x.index.0 l w);
      lists = d.lists;
      kept = d.kept;
    }
