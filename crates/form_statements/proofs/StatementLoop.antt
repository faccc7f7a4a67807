-- The loop over the statements, of the exact checks and of the quick ones: the statements before the present one have
-- passed, the code keeps their extents that are open, and the first miscounted one of those that are closed is known.
use Prim.Native.Nat.{ℕ, suc, ◌+◌, ◌≤◌, ◌<◌}
use native.Mathlib.Omega.{arith}
use native.Mathlib.Numerals.{add-one}
use mathlib.Core.Path.{◌≡◌, refl, sym, ap, ◌∙◌, subst}
use mathlib.Core.List.{List, [], ◌∷◌, map}
use mathlib.Core.Bool.{true, false, ◌&&◌, not}
use lib.Dec.{leb, eqb, lit<}
use lib.ListN.{length}
use borrow.Author.Tests.{ltb-false, leb-false, eqb-true, not-false, le-leb}
use Rattle.std.specs.Prelude.{Option, Some, None}
use Rattle.definitions.specs.Bytes.{range}
use Rattle.definitions.specs.Limits.{version_1}
use Rattle.definitions.specs.Module.{statements, s_end, s_kind}
use Rattle.definitions.specs.Checks.{Refusal, refusal, fine, refused, ◌⇒◌, first, for_each}
use Rattle.definitions.specs.Form as checks
use Rattle.definitions.specs.Form.{last_around, owner, owner_kind, owner_end, depth}
use Rattle.definitions.proofs.Passed.{passes}
use Rattle.module.specs.declared.Sheet.{Sheet}
use Rattle.module.specs.Sheets.{ValidSheet}
use Rattle.limits.specs.Sizes.{open_extents_size}
use Rattle.form_records.proofs.CheckLists.{by_bool, pass_last, stop, refuses, goes}
use Rattle.form_records.proofs.StepRuns.{left, begun, passed, stopped, ended, refused_at, never_refused}
use Rattle.form_statements.specs.declared.extents.Extent.{Extent}
use Rattle.form_statements.specs.Extents.{around, held_before, extent_at, open_at, opened, holding, miscounts, miscounted, IsBefore, judged, ClosingState, closing, OpenValue, table_of, last_of, holding_last}
use Rattle.form_statements.specs.Groups.{statements_form}
use Rattle.form_statements.specs.Context.{ValidArgumentCounts, ValidContext, ValidQuickContext}
use Rattle.form_statements.proofs.RangeCounts.{count_few}
use Rattle.form_statements.proofs.StatementsAround.{top, last_is_top, depth_is_length, ValidNesting, nested_none, nested_more, ends_in_table}
use Rattle.form_statements.proofs.ClosedExtents.{FirstMiscounted, least_none, turned}
use Rattle.form_statements.proofs.HolderKinds.{leaf_counted}

-- the code's extents are those that are open at t
pub record OpenLayout (m : List ℕ) (f t : ℕ) (o : OpenValue) : Type 0 where
  pub standing : o.extents ≡ open_at m f t
  pub table_kind : o.table.kind ≡ 7
  pub table_end : o.table.end ≡ statements m f
  pub table_few : o.table.holds ≤ t

length_extents : (m : List ℕ) (f t : ℕ) (l : List ℕ) → length (map (extent_at m f t) l) ≡ length l
length_extents m f t [] = refl
length_extents m f t (s ∷ l) = ap suc (length_extents m f t l)

-- the last of them is the owner's, their number is the depth, and none holds more than there were statements
module _ (m : List ℕ) (f t : ℕ) (o : OpenValue) (l : OpenLayout m f t o) where
  pub owner_kind_is : (last_of o).kind ≡ owner_kind m f t
  unfolding open_at last_of extent_at owner owner_kind top
  owner_kind_is = go (around m f t t) l.standing (last_is_top m f t t)
    where
      go : (a : List ℕ) → o.extents ≡ map (extent_at m f t) a → last_around m f t t ≡ top a → (last_of o).kind ≡ owner_kind m f t
      go [] e q = rw (e, q, owner_kind) l.table_kind
      go (s ∷ a) e q = rw (e, q, owner_kind)

  pub owner_end_is : (last_of o).end ≡ owner_end m f t
  unfolding open_at last_of extent_at owner owner_end top
  owner_end_is = go (around m f t t) l.standing (last_is_top m f t t)
    where
      go : (a : List ℕ) → o.extents ≡ map (extent_at m f t) a → last_around m f t t ≡ top a → (last_of o).end ≡ owner_end m f t
      go [] e q = rw (e, q, owner_end) l.table_end
      go (s ∷ a) e q = rw (e, q, owner_end)

  pub owner_few : (last_of o).holds ≤ t
  unfolding open_at last_of extent_at held_before
  owner_few = go (around m f t t) l.standing
    where
      go : (a : List ℕ) → o.extents ≡ map (extent_at m f t) a → (last_of o).holds ≤ t
      go [] e = rw e l.table_few
      go (s ∷ a) e = rw e (count_few (λ u. eqb (owner m f u) (suc s)) t)

  pub depth_is : length o.extents ≡ depth m f t
  unfolding open_at depth
  depth_is = ap length l.standing ∙ (length_extents m f t (around m f t t) ∙ sym (depth_is_length m f t t))

-- what the exact checks know of a statement, and the quick ones
pub context_valid : (m : List ℕ) (s : Sheet) (counts : List ℕ) (t : ℕ) (o : OpenValue) → ValidSheet m s → ValidArgumentCounts m s.function counts → t < s.statements
    → OpenLayout m s.function t o → ValidContext m s counts t (last_of o).kind (last_of o).end (length o.extents)
context_valid m s counts t o h w lt l = record {
  sheet_stands = h;
  counts_kept = w;
  there = lt;
  owner_kind_is = owner_kind_is m s.function t o l;
  owner_end_is = owner_end_is m s.function t o l;
  depth_is = depth_is m s.function t o l;
}

pub quick_context : (m : List ℕ) (s : Sheet) (t kind : ℕ) (o : OpenValue) → ValidSheet m s → t < s.statements → OpenLayout m s.function t o → length o.extents ≤ version_1.depth
    → kind ≡ s_kind m s.function t → kind ≤ 11 → ValidQuickContext m s t kind (last_of o).kind
quick_context m s t kind o h lt l shallow e known = record {
  sheet_stands = h;
  there = lt;
  kind_is = e;
  kind_known = known;
  owner_kind_is = owner_kind_is m s.function t o l;
  shallow = omega (arith, shallow, depth_is m s.function t o l);
}

-- What the loop over the statements keeps, of a table of n
pub record LoopLayout (m : List ℕ) (f n : ℕ) (o : OpenValue) (bad : Option ℕ) (t : ℕ) : Type 0 where
  pub all_there : n ≡ statements m f
  pub in_table : t ≤ n
  pub extents : OpenLayout m f t o
  pub nested : ValidNesting m f t
  pub least : FirstMiscounted m f t bad
  pub same : for_each (checks.statement_form version_1 m f) (range 0 (statements m f)) ≡ left (checks.statement_form version_1 m f) t n

pub loop_begun : (m : List ℕ) (f n : ℕ) → n ≡ statements m f → LoopLayout m f n (record { extents = []; table = table_of n }) None 0
unfolding open_at around
loop_begun m f n e = record {
  all_there = e;
  in_table = omega arith;
  extents = record { standing = refl; table_kind = refl; table_end = e; table_few = omega arith };
  nested = nested_none m f;
  least = least_none m f;
  same = begun (checks.statement_form version_1 m f) n (statements m f) e;
}

-- what a statement that has passed gives
record PassedStatement (m : List ℕ) (f t : ℕ) : Type 0 where
  after : t < s_end m f t
  within : s_end m f t ≤ owner_end m f t
  alone : (not (checks.holds_others (s_kind m f t)) && not (eqb (s_end m f t) (t + 1))) ≡ false
  shallow : depth m f t ≤ version_1.depth

statement_passes : (m : List ℕ) (f t : ℕ) → first (checks.statement_form version_1 m f t) ≡ fine tt → PassedStatement m f t
unfolding checks.statement_form version_1 ◌⇒◌
statement_passes m f t e =
    let p = passes (checks.statement_form version_1 m f t) e in
    record {
      after = leb-false _ _ (p 6 (lit< tt));
      within = ltb-false _ _ (p 7 (lit< tt));
      alone = p 8 (lit< tt);
      shallow = ltb-false _ _ (p 15 (lit< tt));
    }

-- one that holds no others ends at once
ends_at_once : (m : List ℕ) (f t : ℕ) → first (checks.statement_form version_1 m f t) ≡ fine tt → checks.holds_others (s_kind m f t) ≡ false → s_end m f t ≡ t + 1
ends_at_once m f t e leaf =
    let alone : not (eqb (s_end m f t) (t + 1)) ≡ false = rw leaf at (statement_passes m f t e).alone in
    eqb-true (s_end m f t) (t + 1) (not-false _ alone)

pub length_holding : (xs : List Extent) → length (holding xs) ≡ length xs
unfolding holding
length_holding [] = refl
length_holding (x ∷ xs) = refl

-- what one more that is held leaves of the table's extent
record HeldTable (x y : Extent) : Type 0 where
  kind_same : y.kind ≡ x.kind
  end_same : y.end ≡ x.end
  more : y.holds ≤ suc x.holds

held_table : (o : OpenValue) → HeldTable o.table (holding_last o).table
unfolding holding_last
held_table o = go o.extents refl
  where
    go : (xs : List Extent) → o.extents ≡ xs → HeldTable o.table (holding_last o).table
    go [] e = rw e (record { kind_same = refl; end_same = refl; more = omega arith })
    go (x ∷ xs) e = rw e (record { kind_same = refl; end_same = refl; more = omega arith })

closing_fewer : (t : ℕ) (xs : List Extent) (bad : Option ℕ) → length (closing t xs bad).extents ≤ length xs
unfolding closing
closing_fewer t [] bad = omega arith
closing_fewer t (x ∷ xs) bad =
    by_bool (leb x.end t)
    (λ e. rw e (omega (arith, closing_fewer t xs (judged x bad))))
    (λ e. rw e (omega arith))

-- a statement that has passed is not too deep, so that its extent has a place when its owner holds it
pub depth_room : (m : List ℕ) (f n t : ℕ) (o held : OpenValue) (bad : Option ℕ) → LoopLayout m f n o bad t → first (checks.statement_form version_1 m f t) ≡ fine tt
    → held ≡ holding_last o → length held.extents + 1 < open_extents_size
unfolding version_1 holding_last
depth_room m f n t o held bad w e h =
    let p = (statement_passes m f t e).shallow in
    rw (h, length_holding o.extents) (omega (arith, depth_is m f t o w.extents))

-- One statement more, which has passed. `held` is what the code has when its owner holds it, and `next` when all that
-- ends with it is closed.
module _ (m : List ℕ) (f n t : ℕ) (o held next : OpenValue) (bad bad' : Option ℕ) (w : LoopLayout m f n o bad t) (lt : t < n)
    (e : first (checks.statement_form version_1 m f t) ≡ fine tt) (h : held ≡ holding_last o) where
  turn : closing (t + 1) (opened t (s_kind m f t) (s_end m f t) ∷ holding o.extents) bad ≡ record { extents = next.extents; bad = bad' } → next.table ≡ held.table
      → LoopLayout m f n next bad' (t + 1)
  turn c k =
      let p = statement_passes m f t e in
      let ns : ValidNesting m f (suc t) = nested_more m f t w.nested p.after p.within in
      let r = turned m f t bad ns (omega (arith, w.all_there)) w.least in
      let one : t + 1 ≡ suc t = add-one t in
      let after : ClosingState = record { extents = open_at m f (suc t); bad = r.next } in
      let left_over : ClosingState = record { extents = next.extents; bad = bad' } in
      let ends : left_over ≡ after =
      sym c ∙ (ap (λ k. closing k (opened t (s_kind m f t) (s_end m f t) ∷ holding o.extents) bad) one
      ∙ (ap (λ xs. closing (suc t) (opened t (s_kind m f t) (s_end m f t) ∷ holding xs) bad) w.extents.standing ∙ r.is)) in
      let table : next.table ≡ (holding_last o).table = k ∙ ap (λ x. x.table) h in
      let one_held = held_table o in
      record {
        all_there = w.all_there;
        in_table = omega arith;
        extents = record {
          standing = ap (λ x. x.extents) ends ∙ ap (λ k. open_at m f k) (sym one);
          table_kind = ap (λ x. x.kind) table ∙ (one_held.kind_same ∙ w.extents.table_kind);
          table_end = ap (λ x. x.end) table ∙ (one_held.end_same ∙ w.extents.table_end);
          table_few = omega (arith, ap (λ x. x.holds) table, one_held.more, w.extents.table_few);
        };
        nested = subst (λ (k : ℕ). ValidNesting m f k) (sym one) ns;
        least = subst (λ (k : ℕ). FirstMiscounted m f k bad') (sym one) (subst (λ (b : Option ℕ). FirstMiscounted m f (suc t) b) (sym (ap (λ x. x.bad) ends)) r.least);
        same = w.same ∙ passed (checks.statement_form version_1 m f) t n lt e;
      }

  -- its extent is opened
  pub turn_opened : (now : OpenValue) (kind end : ℕ) → now ≡ record { extents = opened t kind end ∷ held.extents; table = held.table } → kind ≡ s_kind m f t → end ≡ s_end m f t
      → closing (t + 1) now.extents bad ≡ record { extents = next.extents; bad = bad' } → next.table ≡ now.table → LoopLayout m f n next bad' (t + 1)
  unfolding holding_last
  turn_opened now kind end p k q c z =
      turn (ap (λ xs. closing (t + 1) (opened t (s_kind m f t) (s_end m f t) ∷ xs) bad) (sym (ap (λ x. x.extents) h))
      ∙ (rw (← k, ← q) (ap (λ x. closing (t + 1) x.extents bad) (sym p)) ∙ c)) (z ∙ ap (λ x. x.table) p)

  -- it holds no others, so that its extent would be closed at once
  pub turn_held : checks.holds_others (s_kind m f t) ≡ false
      → closing (t + 1) held.extents bad ≡ record { extents = next.extents; bad = bad' } → next.table ≡ held.table → LoopLayout m f n next bad' (t + 1)
  unfolding closing judged holding_last
  turn_held leaf c z =
      turn (rw (le-leb (s_end m f t) (t + 1) (omega (arith, ends_at_once m f t e leaf)), leaf_counted (s_kind m f t) 0 leaf)
      (ap (λ x. closing (t + 1) x.extents bad) (sym h) ∙ c)) z

-- What the loop of the quick tests keeps besides: nothing is miscounted so far, and none stands too deep
pub record QuickLoopLayout (m : List ℕ) (f n : ℕ) (o : OpenValue) (t : ℕ) : Type 0 where
  pub loop : LoopLayout m f n o None t
  pub shallow : length o.extents ≤ version_1.depth

pub quick_begun : (m : List ℕ) (f n : ℕ) → n ≡ statements m f → QuickLoopLayout m f n (record { extents = []; table = table_of n }) 0
unfolding version_1
quick_begun m f n e = record { loop = loop_begun m f n e; shallow = omega arith }

-- closing leaves no more than there were
left_shallow : (t k : ℕ) (now next : OpenValue) (r : Option ℕ) → closing t now.extents None ≡ record { extents = next.extents; bad = r } → length now.extents ≤ k → length next.extents ≤ k
left_shallow t k now next r c h = omega (arith, closing_fewer t now.extents None, ap (λ x. length x.extents) c)

module _ (m : List ℕ) (f n t : ℕ) (o held next : OpenValue) (r : Option ℕ) (w : QuickLoopLayout m f n o t) (lt : t < n)
    (e : first (checks.statement_form version_1 m f t) ≡ fine tt) (h : held ≡ holding_last o) (none : r ≡ None) where
  pub quick_opened : (now : OpenValue) (kind end : ℕ) → now ≡ record { extents = opened t kind end ∷ held.extents; table = held.table } → kind ≡ s_kind m f t → end ≡ s_end m f t
      → length o.extents + 1 ≤ version_1.depth → closing (t + 1) now.extents None ≡ record { extents = next.extents; bad = r } → next.table ≡ now.table
      → QuickLoopLayout m f n next (t + 1)
  unfolding holding_last
  quick_opened now kind end p k q room c z = record {
    loop = turn_opened m f n t o held next None None w.loop lt e h now kind end p k q (rw none at c) z;
    shallow = left_shallow (t + 1) version_1.depth now next r c (rw (p, h, length_holding o.extents) (omega arith));
  }

  pub quick_held : checks.holds_others (s_kind m f t) ≡ false
      → closing (t + 1) held.extents None ≡ record { extents = next.extents; bad = r } → next.table ≡ held.table → QuickLoopLayout m f n next (t + 1)
  unfolding holding_last
  quick_held leaf c z = record {
    loop = turn_held m f n t o held next None None w.loop lt e h leaf (rw none at c) z;
    shallow = left_shallow (t + 1) version_1.depth held next r c (rw (h, length_holding o.extents) (omega (arith, w.shallow)));
  }

-- past the last statement: the number of arms
right_arms : (m : List ℕ) (f s : ℕ) → miscounted m f s ≡ false → first (checks.arms_form m f s) ≡ fine tt
unfolding checks.arms_form miscounted miscounts
right_arms m f s e = pass_last _ _ e

wrong_arms : (m : List ℕ) (f s : ℕ) → miscounted m f s ≡ true → first (checks.arms_form m f s) ≡ refused (refusal 5 f s)
unfolding checks.arms_form miscounted miscounts
wrong_arms m f s e = stop _ _ [] e

module _ (m : List ℕ) (f n : ℕ) (o : OpenValue) (bad : Option ℕ) (t : ℕ) (w : LoopLayout m f n o bad t) (past : n ≤ t) where
  closed_right : (s : ℕ) → s < n → IsBefore s bad → miscounted m f s ≡ false
  closed_right s a b =
      let e = w.all_there in
      let here = w.in_table in
      w.least.before s (omega arith) b (omega (arith, ends_in_table m f t s w.nested (omega arith)))

  statements_fine : for_each (checks.statement_form version_1 m f) (range 0 (statements m f)) ≡ fine tt
  statements_fine = w.same ∙ ended (checks.statement_form version_1 m f) t n past

  pub loop_bad : (b : ℕ) → bad ≡ Some b → statements_form m f ≡ refused (refusal 5 f b)
  unfolding statements_form
  loop_bad b is =
      let found = w.least.found b is in
      let h : b < n = omega (arith, found.0, w.all_there) in
      goes _ _ statements_fine
      ∙ (begun (checks.arms_form m f) n (statements m f) w.all_there
      ∙ refused_at (checks.arms_form m f) b 0 n (refusal 5 f b) h (omega arith) (λ j a. right_arms m f j (closed_right j (omega arith) (rw is a)))
      (wrong_arms m f b found.1))

  pub loop_ended : bad ≡ None → statements_form m f ≡ fine tt
  unfolding statements_form
  loop_ended is =
      goes _ _ statements_fine
      ∙ (begun (checks.arms_form m f) n (statements m f) w.all_there
      ∙ never_refused (checks.arms_form m f) 0 n (omega arith) (λ j a. right_arms m f j (closed_right j a (rw is tt))))

-- a statement that refuses ends all
pub loop_refused : (m : List ℕ) (f n : ℕ) (o : OpenValue) (bad : Option ℕ) (t : ℕ) (w : LoopLayout m f n o bad t) → t < n
    → (r : Refusal) → first (checks.statement_form version_1 m f t) ≡ refused r → statements_form m f ≡ refused r
unfolding statements_form
loop_refused m f n o bad t w lt r e = refuses _ _ (w.same ∙ stopped (checks.statement_form version_1 m f) t n r lt e)
