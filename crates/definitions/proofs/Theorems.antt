-- What is proved of document 01's definitions, for every module and with no hypothesis but what each line says. The proofs stand in the files
-- above; this one is the list.
use Prim.Native.Nat.{ℕ, zero, suc, ◌-◌, ◌≤◌, ◌<◌}
use native.Mathlib.Omega.{arith}
use mathlib.Core.List.{List, [], ◌∷◌, ◌++◌}
use mathlib.Core.Path.{◌≡◌, refl, sym, ap, ◌∙◌, subst}
use mathlib.Core.Logic.{◌↔◌}
use mathlib.Core.Bool.{Bool, true, false, true≢false, false≢true}
use lib.Bits.{bit_and}
use lib.Dec.{eqb, lit<}
use lib.ListN.{length, get_or, replicate, length-append, length-replicate}
use borrow.Author.Tests.{ltb-false, eqb-true, eqb-false}
use Rattle.definitions.specs.Bytes.{range}
use Rattle.definitions.specs.Limits.{Limits, Sound, version_1, version_1_sound}
use Rattle.definitions.specs.Module.{globals, functions, statements}
use Rattle.definitions.specs.Checks.{Refusal, Checked, fine, refused, each, first, ◌⇒◌}
use Rattle.definitions.specs.State.{State}
use Rattle.definitions.specs.Summary.{Section, no_section, summary_of}
use Rattle.definitions.specs.Walk.{Walked, effect, walk_all, visited}
use Rattle.definitions.specs.ByKinds.{walk_by_kinds}
use Rattle.definitions.specs.Report.{r_globals, r_functions, section_in, dominates}
use Rattle.definitions.specs.Analyse.{accepted, analyse}
use Rattle.definitions.specs.Answer.{lent, run_outcome, answer, lent_report, Ran}
use Rattle.definitions.specs.Chains.{Exact}
use Rattle.definitions.specs.Counting.{counts_of, references}
use Rattle.definitions.proofs.Fold.{bind_fine, not_fine}
use Rattle.definitions.proofs.Passed.{passes}
use Rattle.definitions.proofs.Modules.{accepted_formed}
use Rattle.definitions.proofs.Extents.{whole_table, met_in_order, visits_all}
use Rattle.definitions.proofs.OneWalk.{one_walk}
use Rattle.definitions.proofs.OldLoops.{old_next, accepted_by, Near, but_may_kill, SameButMayKill, loops_near, loops_same}
use Rattle.definitions.proofs.Demand3.{lists_exact}
use Rattle.definitions.proofs.Counts.{counts_add_up}
use Rattle.definitions.proofs.Refusing.{Refuses, refused_inj, given, Given, analyse_given, run_given}
use Rattle.definitions.proofs.Retired.{tested_analyse, tested_outcome, RanTested, same_analyse, same_outcome, same_ran}
use Rattle.definitions.proofs.Reports.{accepting, globals_read, functions_read, reads_back, report_in_limit}

module _ (L : Limits) (sound : Sound L) (m b : List ℕ) (yes : analyse L m ≡ fine b) where
  -- 10.2 Demand 3, of the bytes of the report itself: the pairs and mixed pairs that stand in it at f are exactly those of chains from f, each
  -- once, ascending, and no chain is lost to an end that can't be traced
  pub demand_3 : (f : ℕ) → f < functions m → Exact m f (section_in b f).summary.lists
  unfolding summary_of
  demand_3 f h =
      let a = accepting L m b yes in
      subst (λ v. Exact m f (section_in v f).summary.lists) a.bytes
      (subst (λ y. Exact m f y.summary.lists) (sym (reads_back L sound m a.done a.by_rules f h)) (lists_exact L m a.done a.by_rules f h))

  -- 6.5 The sum of a function's reference counts, of the bytes of the report, is the number of its present operands in expressions and statements
  -- plus its initialisers
  pub counts_sum : (f : ℕ) → f < functions m → counts_of (section_in b f).entries ≡ references m f
  counts_sum f h =
      let a = accepting L m b yes in
      subst (λ v. counts_of (section_in v f).entries ≡ references m f) a.bytes
      (ap (λ y. counts_of y.entries) (reads_back L sound m a.done a.by_rules f h) ∙ counts_add_up L m a.done a.by_rules f h)

  -- 7.5 An accepted report never passes its limit
  pub in_limit : length b ≤ L.report
  in_limit = let a = accepting L m b yes in subst (λ v. length v ≤ L.report) a.bytes (report_in_limit L sound m a.done a.by_rules)

  -- 7 and reads back as what was written: its counts, and function by function the section that the rules gave
  pub read_back : (d : List Section) × (accepted L m ≡ fine d) × (r_globals b ≡ globals m) × (r_functions b ≡ functions m)
      × ((f : ℕ) → f < functions m → section_in b f ≡ get_or d f no_section)
  read_back =
      let a = accepting L m b yes in (
        a.done,
        a.by_rules,
        subst (λ v. r_globals v ≡ globals m) a.bytes (globals_read L m a.done),
        subst (λ v. r_functions v ≡ functions m) a.bytes (functions_read L m a.done),
        λ f h. subst (λ v. section_in v f ≡ get_or a.done f no_section) a.bytes (reads_back L sound m a.done a.by_rules f h),
      )

-- 5.8 Every statement of the table is visited exactly once, in the order of the table, whatever the nesting
pub visits_each_once : (L : Limits) (m : List ℕ) (d : List Section) → accepted L m ≡ fine d → (f : ℕ) → f < functions m
    → visited (statements m f) m f 0 (statements m f) ≡ range 0 (statements m f)
visits_each_once L m d q f h =
    let z : statements m f - 0 ≡ statements m f = omega arith in
    met_in_order m f (statements m f) 0 (statements m f) (whole_table L m f ((accepted_formed L m d q).each_sheet f h)) (omega arith) ∙ ap (range 0) z

-- 5.8 so that what the walk of a function leaves is what the statements' own effects leave, from the first to the last, and every Call contributes
pub visits : (L : Limits) (m : List ℕ) (d : List Section) → accepted L m ≡ fine d → (f : ℕ) → f < functions m
    → (done : List Section) (s : State) (w : Walked) → walk_all L m done f s ≡ fine w → each (effect L m done f) (range 0 (statements m f)) s ≡ fine w.state
visits L m d q f h done s w e = visits_all L m done f ((accepted_formed L m d q).each_sheet f h) s w e

-- 5.2 to 5.6 The walk, one loop for all kinds, is the rule kind by kind
pub by_kinds : (L : Limits) (m : List ℕ) (d : List Section) → accepted L m ≡ fine d → (f : ℕ) → f < functions m
    → (done : List Section) (s : State) → walk_all L m done f s ≡ walk_by_kinds L m done f s
by_kinds L m d q f h done s = one_walk L m f ((accepted_formed L m d q).each_sheet f h) done s

-- 5.4, 5.5 Request A2 changed where a Loop's continuing arm starts. It changed may-kill and refusal 11, and nothing else: by the rule before it
-- and by today's both accept and the sections differ in may-kill alone, or both refuse alike, or one of them refuses with 11
pub loops_change_11_alone : (L : Limits) (m : List ℕ) → Near SameButMayKill (accepted L m) (accepted_by old_next L m)
loops_change_11_alone L m = loops_near L m

-- so that a report has, function by function, the lists, the uses, the counts, the origins and the requirements that the old rule gives, if it
-- accepts the module too
module _ (L : Limits) (sound : Sound L) (m b : List ℕ) (now : analyse L m ≡ fine b) (d : List Section) (then : accepted_by old_next L m ≡ fine d) where
  pub loops_change_may_kill_alone : (f : ℕ) → f < functions m → but_may_kill (section_in b f) ≡ but_may_kill (get_or d f no_section)
  loops_change_may_kill_alone f h = let a = read_back L sound m b now in ap but_may_kill (a.4 f h) ∙ loops_same L m a.0 d a.1 then f

  pub loops_change_no_list : (f : ℕ) → f < functions m → (section_in b f).summary.lists ≡ (get_or d f no_section).summary.lists
  unfolding but_may_kill
  loops_change_no_list f h = ap (λ y. y.summary.lists) (loops_change_may_kill_alone f h)

-- 7.6 One list of uses dominates another exactly where, at each global that both have, every use that the other has the one has too
pub dominates_is : (xs ys : List ℕ) → (dominates xs ys ≡ true) ↔ ((i : ℕ) → i < length xs → i < length ys → bit_and (get_or xs i 0) (get_or ys i 0) ≡ get_or ys i 0)
unfolding dominates
dominates_is [] ys = (λ e i h k. absurd (omega arith), λ h. refl)
dominates_is (x ∷ xs) [] = (λ e i h k. absurd (omega arith), λ h. refl)
dominates_is (x ∷ xs) (y ∷ ys) = go (eqb (bit_and x y) y) refl (dominates_is xs ys)
  where
    All : List ℕ → List ℕ → Type 0
    All us vs = (i : ℕ) → i < length us → i < length vs → bit_and (get_or us i 0) (get_or vs i 0) ≡ get_or vs i 0

    each_one : bit_and x y ≡ y → All xs ys → All (x ∷ xs) (y ∷ ys)
    each_one e h zero a b = e
    each_one e h (suc i) a b = h i (omega arith) (omega arith)

    go : (b : Bool) → eqb (bit_and x y) y ≡ b → (dominates xs ys ≡ true) ↔ All xs ys → (dominates (x ∷ xs) (y ∷ ys) ≡ true) ↔ All (x ∷ xs) (y ∷ ys)
    go true w ih = (λ e. each_one (eqb-true _ _ w) (ih.0 (rw (w, dominates) at e)), λ h. rw (w, dominates) (ih.1 (λ i a b. h (suc i) (omega arith) (omega arith))))
    go false w ih = (λ e. absurd (true≢false (sym (rw (w, dominates) at e))), λ h. absurd (eqb-false _ _ w (h 0 (omega arith) (omega arith))))

-- 12.1 Two answers that meet the promise are equal
pub one_answer : (L : Limits) (m report work : List ℕ) (a₁ a₂ : Checked ℕ) (r₁ r₂ w₁ w₂ : List ℕ) → Ran L m report work a₁ r₁ w₁ → Ran L m report work a₂ r₂ w₂
    → (a₁ ≡ a₂) × (r₁ ≡ r₂) × (w₁ ≡ w₂)
one_answer L m report work a₁ a₂ r₁ r₂ w₁ w₂ p q = (p.answers ∙ sym q.answers, p.reports ∙ sym q.reports, p.clears ∙ sym q.clears)

-- 8.1 Every refusal has a number that is given, 1 to 12, 14 or 15, whatever the bytes, the limits and what is lent
pub numbers_given : (L : Limits) (m : List ℕ) (report work : ℕ) (r : Refusal) → run_outcome L m report work ≡ refused r → given r.number ≡ true
numbers_given = run_given

-- 8.1 and so has every answer that meets the promise
pub answers_given : (L : Limits) (m report work : List ℕ) (answered : Checked ℕ) (r : Refusal) (report' work' : List ℕ) → Ran L m report work answered report' work'
    → answered ≡ refused r → given r.number ≡ true
unfolding answer
answers_given L m report work answered r report' work' p e =
    go (run_outcome L m (length report) (length work)) (sym p.answers ∙ e) (run_given L m (length report) (length work))
  where
    go : (o : Checked (List ℕ)) → answer o ≡ refused r → Refuses Given o → given r.number ≡ true
    go (refused q) h k = subst Given (refused_inj h) (k q refl)
    go (fine b) h k = absurd (not_fine (sym h))

-- 8.1 so no module, of right form or not, is refused with 13
pub no_13 : (L : Limits) (m : List ℕ) (r : Refusal) → analyse L m ≡ refused r → r.number ≡ 13 → ⊥
unfolding given
no_13 L m r e n = false≢true (subst (λ v. given v ≡ true) n (analyse_given L m r e))

-- 3.4 The paper's test for a second carried global, which was 13, is idle: the analysis with it is the analysis without,
-- of any bytes, any limits and whatever is lent; and so are the answer, the report and every lent byte
pub test_is_idle : (L : Limits) (m : List ℕ) (report work : ℕ) → tested_outcome L m report work ≡ run_outcome L m report work
test_is_idle = same_outcome

pub ran_without_test : (L : Limits) (m report work : List ℕ) (answered : Checked ℕ) (report' work' : List ℕ)
    → RanTested L m report work answered report' work' ↔ Ran L m report work answered report' work'
ran_without_test = same_ran

-- so it never refused a module with 13 either
pub no_13_with_test : (L : Limits) (m : List ℕ) (r : Refusal) → tested_analyse L m ≡ refused r → r.number ≡ 13 → ⊥
no_13_with_test L m r e = no_13 L m r (sym (same_analyse L m) ∙ e)

-- 9.3 A refusal's buffer is all zero
pub refused_zero : (L : Limits) (m report work : List ℕ) (answered : Checked ℕ) (r : Refusal) (report' work' : List ℕ) → Ran L m report work answered report' work'
    → answered ≡ refused r → report' ≡ replicate (length report) 0
unfolding answer lent_report
refused_zero L m report work answered r report' work' p e = p.reports ∙ go (run_outcome L m (length report) (length work)) (sym p.answers ∙ e)
  where
    go : (o : Checked (List ℕ)) → answer o ≡ refused r → lent_report (length report) o ≡ replicate (length report) 0
    go (refused q) h = refl
    go (fine b) h = absurd (not_fine (sym h))

-- 9.3 The report with the zeros behind it fills the lent buffer
pub report_fills : (L : Limits) → Sound L → (m : List ℕ) (report work : ℕ) → length (lent_report report (run_outcome L m report work)) ≡ report
unfolding run_outcome lent_report lent ◌⇒◌
report_fills L sound m report work = go (run_outcome L m report work) refl
  where
    filled : (b : List ℕ) → length b ≤ report → length (b ++ replicate (report - length b) 0) ≡ report
    filled b h =
        let a = length-append b (replicate (report - length b) 0) in
        let c = length-replicate {A = ℕ} (report - length b) 0 in
        omega arith

    go : (o : Checked (List ℕ)) → run_outcome L m report work ≡ o → length (lent_report report o) ≡ report
    go (refused r) e = length-replicate report 0
    go (fine b) e =
        let a = bind_fine (first (lent L report work)) _ e in
        let room : L.report ≤ report = ltb-false _ _ (passes (lent L report work) a.1 0 (lit< tt)) in
        let fits = in_limit L sound m b a.2 in
        filled b (omega (arith, room, fits))

-- At version 1's limits nothing is supposed but acceptance
module _ (m b : List ℕ) (yes : analyse version_1 m ≡ fine b) where
  pub demand_3_of_version_1 : (f : ℕ) → f < functions m → Exact m f (section_in b f).summary.lists
  demand_3_of_version_1 = demand_3 version_1 version_1_sound m b yes

  pub counts_sum_of_version_1 : (f : ℕ) → f < functions m → counts_of (section_in b f).entries ≡ references m f
  counts_sum_of_version_1 = counts_sum version_1 version_1_sound m b yes

  pub in_limit_of_version_1 : length b ≤ 65536
  unfolding version_1
  in_limit_of_version_1 = in_limit version_1 version_1_sound m b yes
