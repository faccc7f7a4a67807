-- 3.4 The paper's test for a second carried global, and its refusal 13, are retired. Here they stand as the paper has
-- them, and the analysis with the test is proved equal to the analysis without, for any bytes, any limits and whatever
-- is lent. No record is handed two globals: kind 2 alone starts with one, and it has no operands; and C stands nowhere
-- but first, in kinds 5 and 6.
use Prim.Native.Nat.{ℕ, zero, suc, ◌<◌}
use native.Mathlib.Omega.{arith}
use mathlib.Core.List.{List, [], ◌∷◌, ◌++◌}
use mathlib.Core.Path.{◌≡◌, refl, sym, ap, ◌∙◌}
use mathlib.Core.Logic.{inl, inr, ◌↔◌}
use mathlib.Core.Bool.{Bool, true, false, ◌&&◌, false≢true}
use mathlib.Core.Option.{Option, none, some}
use lib.Dec.{leb, eqb}
use lib.ListN.{get_or, length}
use borrow.Author.Tests.{eqb-true}
use Rattle.definitions.specs.Bytes.{range}
use Rattle.definitions.specs.Limits.{Limits}
use Rattle.definitions.specs.Module.{functions, expressions, initialisers, named, kind, sub, number, operand_count, absent}
use Rattle.definitions.specs.Checks.{Refusal, refusal, Checked, refused, fine, ◌>>=◌, first, each, through}
use Rattle.definitions.specs.Roles.{Use, R, Q, C, W, Role, no_operand, operands_by_kind, level_1, level_2, role, use_of}
use Rattle.definitions.specs.Form.{form}
use Rattle.definitions.specs.State.{State, start, known_of, Operand, present, operand_at, operands_of, handed_by, carry, carried}
use Rattle.definitions.specs.Summary.{Section}
use Rattle.definitions.specs.Expressions.{own_global, access, sampled, with_expression, expression_step}
use Rattle.definitions.specs.Walk.{Walked, walk_all}
use Rattle.definitions.specs.Report.{report}
use Rattle.definitions.specs.Analyse.{initialise, name, function_run, section_of, report_fits, sections, accepted, analyse}
use Rattle.definitions.specs.Answer.{lent, run_outcome, answer, lent_report, lent_work, Ran}
use Rattle.definitions.specs.Chains.{Mem}
use Rattle.definitions.proofs.Fold.{fine_inj, not_fine}
use Rattle.definitions.proofs.Order.{and_true, by_bool}
use Rattle.definitions.proofs.Ranges.{range_from}
use Rattle.definitions.proofs.Runs.{bind_same, bind_both, each_same}

-- a use that hands nothing on: all but C
quiet : Use → Bool
quiet R = true
quiet Q = true
quiet W = true
quiet C = false

quiet_hands : (u : Use) → quiet u ≡ true → (g : Option ℕ) → handed_by u g ≡ none
unfolding quiet handed_by
quiet_hands R h g = refl
quiet_hands Q h g = refl
quiet_hands W h g = refl
quiet_hands C h g = absurd (false≢true h)

-- 4.1 of a kind's operands none but the first carries: one computed test over the whole table
all_quiet : List Role → Bool
all_quiet [] = true
all_quiet (r ∷ rs) = quiet (use_of r) && all_quiet rs

quiet_behind : List Role → Bool
quiet_behind [] = true
quiet_behind (r ∷ rs) = all_quiet rs

each_kind : List (List Role) → Bool
each_kind [] = true
each_kind (k ∷ ks) = quiet_behind k && each_kind ks

one_carries : (s : ℕ) → each_kind (operands_by_kind s) ≡ true
unfolding each_kind quiet_behind all_quiet quiet use_of operands_by_kind level_1 level_2
one_carries s =
    by_bool (leb 2 s)
    (λ a. by_bool (eqb s 4) (λ b. rw (a, b)) (λ b. rw (a, b)))
    (λ a. by_bool (eqb s 4) (λ b. rw (a, b)) (λ b. rw (a, b)))

quiet_at : (l : List Role) → all_quiet l ≡ true → (j : ℕ) → quiet (use_of (get_or l j no_operand)) ≡ true
unfolding all_quiet quiet use_of
quiet_at [] h j = refl
quiet_at (r ∷ rs) h zero = (and_true _ _ h).0
quiet_at (r ∷ rs) h (suc j) = quiet_at rs (and_true (quiet (use_of r)) (all_quiet rs) h).1 j

behind_at : (l : List Role) → quiet_behind l ≡ true → (j : ℕ) → quiet (use_of (get_or l (suc j) no_operand)) ≡ true
unfolding quiet_behind quiet use_of
behind_at [] h j = refl
behind_at (r ∷ rs) h j = quiet_at rs h j

kind_at : (ks : List (List Role)) → each_kind ks ≡ true → (k : ℕ) → quiet_behind (get_or ks k []) ≡ true
unfolding each_kind quiet_behind
kind_at [] h k = refl
kind_at (l ∷ ks) h zero = (and_true _ _ h).0
kind_at (l ∷ ks) h (suc k) = kind_at ks (and_true (quiet_behind l) (each_kind ks) h).1 k

-- no operand but the first carries, and none of kind 2
later_quiet : (k s j : ℕ) → 0 < j → quiet (use_of (role k s j)) ≡ true
unfolding role quiet use_of
later_quiet k s zero h = absurd (omega arith)
later_quiet k s (suc j) h =
    by_bool (eqb k 11)
    (λ e. rw e)
    (λ e. rw e (behind_at (get_or (operands_by_kind s) k []) (kind_at (operands_by_kind s) (one_carries s) k) j))

global_quiet : (k s j : ℕ) → k ≡ 2 → quiet (use_of (role k s j)) ≡ true
unfolding role operands_by_kind quiet use_of
global_quiet k s j e = rw e

-- The rule as it was. 13: a record that already carries a global is handed another
unfoldable pub tested_carry : Refusal → Option ℕ → Option ℕ → Checked (Option ℕ)
tested_carry second none carried = fine carried
tested_carry second (some g) none = fine (some g)
tested_carry second (some g) (some h) = refused second

unfoldable pub tested_carried : Refusal → List Operand → State → Option ℕ → Checked (Option ℕ)
tested_carried second os s own = each (λ o c. tested_carry second (handed_by o.does (known_of s o.target).assignable) c) os own

-- it came with the operand that hands the second global on, behind 8 and 9 of an Access, or 7 and 12 of a sampling
unfoldable pub tested_step : Limits → List ℕ → List Section → ℕ → ℕ → State → Checked State
tested_step L m done f e s = do
  _ ← first (access m f e s)
  l ← sampled L m f e s.lists
  g ← tested_carried (refusal 13 f e) (operands_of m f e) s (own_global m f e)
  fine (with_expression m done f e l g s)

-- and all above it, word for word as in `Analyse` and `Answer`
unfoldable pub tested_function : Limits → List ℕ → List Section → ℕ → Checked Walked
tested_function L m done f = do
  s ← each (tested_step L m done f) (range 0 (expressions m f)) (start m f)
  w ← walk_all L m done f (through (initialise m f) (range 0 (initialisers m f)) s)
  fine (record { state = through (name m f) (range 0 (named m f)) w.state; outcome = w.outcome })

unfoldable pub tested_sections : Limits → List ℕ → ℕ → Checked (List Section)
tested_sections L m zero = fine []
tested_sections L m (suc f) = do
  done ← tested_sections L m f
  w ← tested_function L m done f
  _ ← first (report_fits L m f (done ++ (section_of m f w ∷ [])))
  fine (done ++ (section_of m f w ∷ []))

unfoldable pub tested_accepted : Limits → List ℕ → Checked (List Section)
tested_accepted L m = do
  _ ← form L m
  tested_sections L m (functions m)

unfoldable pub tested_analyse : Limits → List ℕ → Checked (List ℕ)
tested_analyse L m = do
  done ← tested_accepted L m
  fine (report L m done)

unfoldable pub tested_outcome : Limits → List ℕ → ℕ → ℕ → Checked (List ℕ)
tested_outcome L m report work = do
  _ ← first (lent L report work)
  tested_analyse L m

pub record RanTested (L : Limits) (m report work : List ℕ) (answered : Checked ℕ) (report' work' : List ℕ) : Type 0 where
  pub answers : answered ≡ answer (tested_outcome L m (length report) (length work))
  pub reports : report' ≡ lent_report (length report) (tested_outcome L m (length report) (length work))
  pub clears : work' ≡ lent_work (length work)

module _ (r : Refusal) (s : State) where
  -- what the test lets through is what the record carries without it
  tested_plain : (os : List Operand) (c g : Option ℕ) → tested_carried r os s c ≡ fine g → carried os s c ≡ g
  unfolding tested_carried tested_carry carried carry each through ◌>>=◌
  tested_plain [] c g e = fine_inj e
  tested_plain (o ∷ os) c g e = go (handed_by o.does (known_of s o.target).assignable) c e (tested_plain os)
    where
      go : (h c : Option ℕ) → (tested_carry r h c >>= λ x. tested_carried r os s x) ≡ fine g
          → ((x y : Option ℕ) → tested_carried r os s x ≡ fine y → carried os s x ≡ y) → carried os s (carry h c) ≡ g
      go none c e ih = ih c g e
      go (some y) none e ih = ih (some y) g e
      go (some y) (some z) e ih = absurd (not_fine e)

  module _ (at : ℕ → Operand) where
    -- operands that hand nothing on leave what is carried
    kept : (l : List ℕ) → ((j : ℕ) → Mem j l → quiet (at j).does ≡ true) → (c : Option ℕ) → tested_carried r (present at l) s c ≡ fine c
    unfolding tested_carried each present tested_carry ◌>>=◌
    kept [] h c = refl
    kept (j ∷ l) h c =
        by_bool (eqb (at j).target absent)
        (λ e. rw (e, present) (kept l (λ i q. h i (inr q)) c))
        (λ e. rw (e, present, quiet_hands (at j).does (h j (inl refl))) (kept l (λ i q. h i (inr q)) c))

    -- where none but the first hands anything on, there is no second
    first_alone : (n : ℕ) → ((j : ℕ) → 0 < j → quiet (at j).does ≡ true) → (g : Option ℕ) × (tested_carried r (present at (range 0 n)) s none ≡ fine g)
    unfolding tested_carried each present tested_carry ◌>>=◌ range
    first_alone zero h = (none, refl)
    first_alone (suc n) h =
        by_bool (eqb (at 0).target absent)
        (λ e. (none, rw (e, present) (rest none)))
        (λ e. rw (e, present) (handed (handed_by (at 0).does (known_of s (at 0).target).assignable)))
      where
        rest : (c : Option ℕ) → tested_carried r (present at (range 1 n)) s c ≡ fine c
        rest c = kept (range 1 n) (λ j q. let x = range_from 1 n j q in h j (omega arith)) c

        handed : (g : Option ℕ) → (x : Option ℕ) × ((tested_carry r g none >>= λ c. tested_carried r (present at (range 1 n)) s c) ≡ fine x)
        handed none = (none, rest none)
        handed (some y) = (some y, rest (some y))

-- the test refuses nothing, whatever the bytes, the state and the record
pub never_13 : (r : Refusal) (m : List ℕ) (f e : ℕ) (s : State) → (g : Option ℕ) × (tested_carried r (operands_of m f e) s (own_global m f e) ≡ fine g)
unfolding operands_of own_global operand_at
never_13 r m f e s =
    by_bool (eqb (kind m f e) 2)
    (λ q.
    let k = eqb-true (kind m f e) 2 q in
    (some (number m f e), rw q (kept r s (operand_at m f e) (range 0 (operand_count m f e)) (λ j _. global_quiet (kind m f e) (sub m f e) j k) _)))
    (λ q. let a = first_alone r s (operand_at m f e) (operand_count m f e) (later_quiet (kind m f e) (sub m f e)) in (a.0, rw q a.1))

pub same_carried : (r : Refusal) (m : List ℕ) (f e : ℕ) (s : State)
    → tested_carried r (operands_of m f e) s (own_global m f e) ≡ fine (carried (operands_of m f e) s (own_global m f e))
same_carried r m f e s = let a = never_13 r m f e s in a.1 ∙ ap fine (sym (tested_plain r s (operands_of m f e) (own_global m f e) a.0 a.1))

module _ (L : Limits) (m : List ℕ) where
  pub same_step : (done : List Section) (f e : ℕ) (s : State) → tested_step L m done f e s ≡ expression_step L m done f e s
  unfolding tested_step expression_step ◌>>=◌
  same_step done f e s =
      bind_same (first (access m f e s)) (λ _. bind_same (sampled L m f e s.lists) (λ l. bind_both (same_carried (refusal 13 f e) m f e s) (λ g. refl)))

  pub same_function : (done : List Section) (f : ℕ) → tested_function L m done f ≡ function_run L m done f
  unfolding tested_function function_run
  same_function done f = bind_both (each_same (same_step done f) (range 0 (expressions m f)) (start m f)) (λ s. refl)

  pub same_sections : (n : ℕ) → tested_sections L m n ≡ sections L m n
  unfolding tested_sections sections
  same_sections zero = refl
  same_sections (suc f) = bind_both (same_sections f) (λ done. bind_both (same_function done f) (λ w. refl))

  pub same_accepted : tested_accepted L m ≡ accepted L m
  unfolding tested_accepted accepted
  same_accepted = bind_same (form L m) (λ _. same_sections (functions m))

  pub same_analyse : tested_analyse L m ≡ analyse L m
  unfolding tested_analyse analyse
  same_analyse = bind_both same_accepted (λ done. refl)

  pub same_outcome : (report work : ℕ) → tested_outcome L m report work ≡ run_outcome L m report work
  unfolding tested_outcome run_outcome
  same_outcome report work = bind_same (first (lent L report work)) (λ _. same_analyse)

  -- 9.3 the answer, the report and every lent byte
  pub same_ran : (report work : List ℕ) (answered : Checked ℕ) (report' work' : List ℕ) → RanTested L m report work answered report' work' ↔ Ran L m report work answered report' work'
  same_ran report work answered report' work' =
      let e = same_outcome (length report) (length work) in (
        λ r. record { answers = r.answers ∙ ap answer e; reports = r.reports ∙ ap (lent_report (length report)) e; clears = r.clears },
        λ r. record { answers = r.answers ∙ ap answer (sym e); reports = r.reports ∙ ap (lent_report (length report)) (sym e); clears = r.clears },
      )
