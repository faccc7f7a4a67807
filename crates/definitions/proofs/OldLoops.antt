-- Request A2 of document 02 changed where a Loop's continuing arm starts. What it could not change: a module that both rules accept has the
-- same lists, uses, counts, origins and requirements by both, so that only may-kill can differ; and where the answers differ otherwise, one
-- of them is refusal 11. It is so for any two rules that say where the next statement starts: what a statement does to the state, and the
-- origin and the requirements that it gives, ask for no disruptor (01, 5.2, 5.3).
use Prim.Native.Nat.{ℕ, zero, suc, ◌+◌, ◌-◌}
use native.Mathlib.Omega.{arith}
use mathlib.Core.List.{List, [], ◌∷◌, ◌++◌, map, map-append}
use mathlib.Core.Path.{◌≡◌, refl, sym, ap, ◌∙◌, subst}
use mathlib.Core.Logic.{⊎_elim}
use mathlib.Core.Bool.{Bool, true, false, cond, ◌&&◌, not}
use lib.Dec.{ltb, eqb}
use lib.ListN.{length, get_or, length-append, get_or-map}
use borrow.Author.Tests.{lt-ltb, le-ltb}
use Rattle.definitions.specs.Bytes.{range}
use Rattle.definitions.specs.Limits.{Limits, version_1}
use Rattle.definitions.specs.Module.{functions, expressions, statements, initialisers, named, number, s_kind, s_sub, s_number, s_end}
use Rattle.definitions.specs.Codes.{join}
use Rattle.definitions.specs.Checks.{Refusal, refusal, Checked, refused, fine, ◌>>=◌, first, each, through}
use Rattle.definitions.specs.Form.{form}
use Rattle.definitions.specs.State.{State, start, known_of}
use Rattle.definitions.specs.Summary.{Section, no_section, summary_of}
use Rattle.definitions.specs.Expressions.{origin_of, requirements_of, with_expression, expression_step}
use Rattle.definitions.specs.Walk.{Disruptor, undisrupted, by_expression, by_return, by_discard, or_then, Outcome, nothing, requiring, joined, exit, non_uniform, stopped, emit_one, emitted, own_outcome, called, call, effect, Walked, own, inside_start, next, go, onward, walk, walk_all}
use Rattle.definitions.specs.Report.{concat_map, section_bytes, report}
use Rattle.definitions.specs.Analyse.{initialise, name, function_run, section_of, report_fits, sections, accepted}
use Rattle.definitions.specs.Cases.{loops}
use Rattle.definitions.specs.Run.{run}
use Rattle.definitions.proofs.Runs.{bind_same}
use Rattle.definitions.proofs.Extents.{lt_or_ge}
use Rattle.definitions.proofs.Reading.{section_length}
use Rattle.definitions.proofs.Reports.{report_length}

-- where what follows a statement starts, as `next` says it
abbrev pub Rule : Type 0
Rule = List ℕ → ℕ → ℕ → Disruptor → Disruptor → Outcome → Disruptor

-- 5.5 as it was: after an arm that falls through, the next starts from what this arm started from or, where that is nothing, from its exit.
-- After any other arm the next starts from where the first did. So both arms of a Loop started from what the Loop started from
unfoldable pub old_next : Rule
old_next m f t begin d o = cond (eqb (s_kind m f t) 11 && not (eqb (s_sub m f t) 1)) begin (or_then d (exit o))

-- the analysis by a rule: `go`, `function_run`, `sections` and `accepted` with the rule in the place of `next`
module _ (rule : Rule) where
  unfoldable pub go_by : ℕ → Limits → List ℕ → List Section → ℕ → ℕ → ℕ → Disruptor → Disruptor → Outcome → State → Checked Walked
  go_by zero L m done f at end begin d out s = fine (record { state = s; outcome = out })
  go_by (suc n) L m done f at end begin d out s =
      elim (ltb at end) [
        | true ↦
            own L m done f at d s >>= λ a.
            let start = inside_start m f at d a.state in
            go_by n L m done f (at + 1) (s_end m f at) start start nothing a.state >>= λ b.
            let o = joined a.outcome b.outcome in
            go_by n L m done f (s_end m f at) end begin (rule m f at begin d o) (joined out o) b.state
        | false ↦ fine (record { state = s; outcome = out })
      ]

  unfoldable pub function_run_by : Limits → List ℕ → List Section → ℕ → Checked Walked
  function_run_by L m done f = do
    s ← each (expression_step L m done f) (range 0 (expressions m f)) (start m f)
    w ← go_by (statements m f - 0) L m done f 0 (statements m f) undisrupted undisrupted nothing (through (initialise m f) (range 0 (initialisers m f)) s)
    fine (record { state = through (name m f) (range 0 (named m f)) w.state; outcome = w.outcome })

  unfoldable pub sections_by : Limits → List ℕ → ℕ → Checked (List Section)
  sections_by L m zero = fine []
  sections_by L m (suc f) = do
    done ← sections_by L m f
    w ← function_run_by L m done f
    _ ← first (report_fits L m f (done ++ (section_of m f w ∷ [])))
    fine (done ++ (section_of m f w ∷ []))

  unfoldable pub accepted_by : Limits → List ℕ → Checked (List Section)
  accepted_by L m = do
    _ ← form L m
    sections_by L m (functions m)

-- by today's rule it is the analysis of the definitions
go_now : (n : ℕ) (L : Limits) (m : List ℕ) (done : List Section) (f at hi : ℕ) (b d : Disruptor) (out : Outcome) (s : State)
    → go n L m done f at hi b d out s ≡ go_by next n L m done f at hi b d out s
unfolding go go_by
go_now zero L m done f at hi b d out s = refl
go_now (suc n) L m done f at hi b d out s =
    ⊎_elim
    (λ lt.
    rw (lt-ltb at hi lt, go, go_by)
    (bind_same (own L m done f at d s) (λ a.
    rw (go_now n L m done f (at + 1) (s_end m f at) (inside_start m f at d a.state) (inside_start m f at d a.state) nothing a.state)
    (bind_same (go_by next n L m done f (at + 1) (s_end m f at) (inside_start m f at d a.state) (inside_start m f at d a.state) nothing a.state) (λ c.
    go_now n L m done f (s_end m f at) hi b _ _ c.state)))))
    (λ ge. rw (le-ltb at hi ge, go, go_by))
    (lt_or_ge at hi)

run_now : (L : Limits) (m : List ℕ) (done : List Section) (f : ℕ) → function_run L m done f ≡ function_run_by next L m done f
unfolding function_run function_run_by walk_all walk onward ◌>>=◌
run_now L m done f = bind_same (each (expression_step L m done f) (range 0 (expressions m f)) (start m f)) (λ s. rw go_now)

sections_now : (L : Limits) (m : List ℕ) (n : ℕ) → sections L m n ≡ sections_by next L m n
unfolding sections sections_by
sections_now L m zero = refl
sections_now L m (suc f) = rw (sections_now L m f) (bind_same (sections_by next L m f) (λ done. rw (run_now L m done f)))

pub accepted_now : (L : Limits) (m : List ℕ) → accepted L m ≡ accepted_by next L m
unfolding accepted accepted_by
accepted_now L m = bind_same (form L m) (λ _. sections_now L m (functions m))

-- What two analyses may come to: what R relates, the same refusal, or at least one of them refuses with 11
pub data Near {A : Type 0} (R : A → A → Type 0) : Checked A → Checked A → Type 0 where
  both_fine : {a a' : A} → R a a' → Near R (fine a) (fine a')
  same_refusal : {r : Refusal} → Near R (refused r) (refused r)
  one_11 : {r : Refusal} {c : Checked A} → r.number ≡ 11 → Near R (refused r) c
  other_11 : {c : Checked A} {r : Refusal} → r.number ≡ 11 → Near R c (refused r)

near_same : {A : Type 0} {R : A → A → Type 0} → ((a : A) → R a a) → (c : Checked A) → Near R c c
near_same h (refused r) = same_refusal
near_same h (fine a) = both_fine (h a)

near_equal : {A : Type 0} {c c' : Checked A} → c ≡ c' → Near ◌≡◌ c c'
near_equal {c} e = subst (Near ◌≡◌ c) e (near_same (λ a. refl) c)

near_bind : {A B : Type 0} {R : A → A → Type 0} {S : B → B → Type 0} {c c' : Checked A} {k k' : A → Checked B} → Near R c c'
    → ((a a' : A) → R a a' → Near S (k a) (k' a')) → Near S (c >>= k) (c' >>= k')
unfolding ◌>>=◌
near_bind (both_fine x) h = h _ _ x
near_bind same_refusal h = same_refusal
near_bind (one_11 e) h = one_11 e
near_bind (other_11 e) h = other_11 e

near_cond : {A : Type 0} {R : A → A → Type 0} (b : Bool) {x x' y y' : Checked A} → Near R x x' → Near R y y' → Near R (cond b x y) (cond b x' y')
near_cond true h k = h
near_cond false h k = k

near_each : {A S : Type 0} {R : S → S → Type 0} {step step' : A → S → Checked S} → ((a : A) (s s' : S) → R s s' → Near R (step a s) (step' a s'))
    → (l : List A) (s s' : S) → R s s' → Near R (each step l s) (each step' l s')
unfolding each
near_each law [] s s' h = both_fine h
near_each law (a ∷ l) s s' h = near_bind (law a s s' h) (λ t t' k. near_each law l t t' k)

pub near_fine : {A : Type 0} {R : A → A → Type 0} {a a' : A} → Near R (fine a) (fine a') → R a a'
near_fine (both_fine h) = h

-- a section with nothing said of may-kill: origin, requirements, uses, lists, and all that is known of the expressions
unfoldable pub but_may_kill : Section → Section
but_may_kill y = record {
  summary = record {
    origin = y.summary.origin;
    requirements = y.summary.requirements;
    may_kill = false;
    uses = y.summary.uses;
    lists = y.summary.lists;
  };
  entries = y.entries;
}

-- sections that differ in may-kill alone
unfoldable pub SameButMayKill : List Section → List Section → Type 0
SameButMayKill d d' = map but_may_kill d ≡ map but_may_kill d'

pub same_at : (d d' : List Section) → SameButMayKill d d' → (g : ℕ) → but_may_kill (get_or d g no_section) ≡ but_may_kill (get_or d' g no_section)
unfolding SameButMayKill
same_at d d' e g =
    sym (get_or-map but_may_kill d g no_section) ∙ (ap (λ l. get_or l g (but_may_kill no_section)) e ∙ get_or-map but_may_kill d' g no_section)

-- outcomes with the same origin and requirements; walks that leave the same state besides
record Alike (o o' : Outcome) : Type 0 where
  origin_same : o.origin ≡ o'.origin
  requirements_same : o.requirements ≡ o'.requirements

record Agree (w w' : Walked) : Type 0 where
  state_same : w.state ≡ w'.state
  outcome_alike : Alike w.outcome w'.outcome

alike : (o : Outcome) → Alike o o
alike o = record { origin_same = refl; requirements_same = refl }

joined_alike : (a a' b b' : Outcome) → Alike a a' → Alike b b' → Alike (joined a b) (joined a' b')
unfolding joined
joined_alike a a' b b' h k = record { origin_same = rw (h.origin_same, k.origin_same); requirements_same = rw (h.requirements_same, k.requirements_same) }

eleven : (f e : ℕ) (d : Disruptor) → (non_uniform f e d).number ≡ 11
unfolding non_uniform refusal
eleven f e undisrupted = refl
eleven f e (by_expression x) = refl
eleven f e by_return = refl
eleven f e by_discard = refl

module _ (L : Limits) (m : List ℕ) (f : ℕ) (done done' : List Section) (same : SameButMayKill done done') where
  -- what a rule asks of a callee, but for may-kill
  same_origin : (g : ℕ) → (summary_of done g).origin ≡ (summary_of done' g).origin
  unfolding summary_of but_may_kill
  same_origin g = ap (λ y. y.summary.origin) (same_at done done' same g)

  same_requirements : (g : ℕ) → (summary_of done g).requirements ≡ (summary_of done' g).requirements
  unfolding summary_of but_may_kill
  same_requirements g = ap (λ y. y.summary.requirements) (same_at done done' same g)

  same_uses : (g : ℕ) → (summary_of done g).uses ≡ (summary_of done' g).uses
  unfolding summary_of but_may_kill
  same_uses g = ap (λ y. y.summary.uses) (same_at done done' same g)

  same_lists : (g : ℕ) → (summary_of done g).lists ≡ (summary_of done' g).lists
  unfolding summary_of but_may_kill
  same_lists g = ap (λ y. y.summary.lists) (same_at done done' same g)

  expression_same : (e : ℕ) (s : State) → expression_step L m done f e s ≡ expression_step L m done' f e s
  unfolding expression_step with_expression origin_of requirements_of
  expression_same e s = rw (same_origin (number m f e), same_requirements (number m f e))

  effect_same : (t : ℕ) (s : State) → effect L m done f t s ≡ effect L m done' f t s
  unfolding effect call called
  effect_same t s = rw (same_uses (s_number m f t), same_lists (s_number m f t))

  emit_near : (d d' : Disruptor) (s : State) (e r r' : ℕ) → r ≡ r' → Near ◌≡◌ (emit_one m f d s e r) (emit_one m f d' s e r')
  unfolding emit_one
  emit_near d d' s e r r' h = pick (stopped m f d s e) (stopped m f d' s e)
    where
      pick : (x y : Bool) → Near ◌≡◌ (cond x (refused (non_uniform f e d)) (fine (join r (known_of s e).requirements)))
          (cond y (refused (non_uniform f e d')) (fine (join r' (known_of s e).requirements)))
      pick true y = one_11 (eleven f e d)
      pick false true = other_11 (eleven f e d')
      pick false false = both_fine (ap (λ v. join v (known_of s e).requirements) h)

  outcome_near : (t : ℕ) (d d' : Disruptor) (s : State) → Near Alike (own_outcome m done f t d s) (own_outcome m done' f t d' s)
  unfolding own_outcome emitted requiring
  outcome_near t d d' s =
      near_cond (eqb (s_kind m f t) 0) (near_bind (near_each (emit_near d d' s) _ 0 0 refl) (λ r r' h. both_fine (record { origin_same = refl; requirements_same = h })))
      (near_cond (eqb (s_kind m f t) 2) (both_fine (record { origin_same = refl; requirements_same = refl }))
      (near_cond (eqb (s_kind m f t) 3) (both_fine (record { origin_same = refl; requirements_same = refl }))
      (near_cond (eqb (s_kind m f t) 4) (both_fine (record { origin_same = refl; requirements_same = refl }))
      (near_cond (eqb (s_kind m f t) 6) (both_fine (record { origin_same = same_origin (s_number m f t); requirements_same = same_requirements (s_number m f t) }))
      (both_fine (alike nothing))))))

  own_near : (t : ℕ) (d d' : Disruptor) (s s' : State) → s ≡ s' → Near Agree (own L m done f t d s) (own L m done' f t d' s')
  unfolding own
  own_near t d d' s s' e =
      near_bind (near_equal (effect_same t s ∙ ap (effect L m done' f t) e)) (λ a a' h.
      near_bind (subst (λ v. Near Alike (own_outcome m done f t d a) (own_outcome m done' f t d' v)) h (outcome_near t d d' a)) (λ o o' k.
      both_fine (record { state_same = h; outcome_alike = k })))

  module _ (one other : Rule) where
    go_near : (n at hi : ℕ) (b b' d d' : Disruptor) (out out' : Outcome) (s s' : State) → s ≡ s' → Alike out out'
        → Near Agree (go_by one n L m done f at hi b d out s) (go_by other n L m done' f at hi b' d' out' s')
    unfolding go_by
    go_near zero at hi b b' d d' out out' s s' e k = both_fine (record { state_same = e; outcome_alike = k })
    go_near (suc n) at hi b b' d d' out out' s s' e k =
        ⊎_elim
        (λ lt.
        rw (lt-ltb at hi lt, go_by)
        (near_bind (own_near at d d' s s' e) (λ a a' x.
        near_bind (go_near n (at + 1) (s_end m f at) _ _ _ _ nothing nothing a.state a'.state x.state_same (alike nothing)) (λ c c' y.
        let o = joined_alike a.outcome a'.outcome c.outcome c'.outcome x.outcome_alike y.outcome_alike in
        go_near n (s_end m f at) hi b b' _ _ _ _ c.state c'.state y.state_same (joined_alike out out' _ _ k o)))))
        (λ ge. rw (le-ltb at hi ge, go_by) (both_fine (record { state_same = e; outcome_alike = k })))
        (lt_or_ge at hi)

    function_near : Near Agree (function_run_by one L m done f) (function_run_by other L m done' f)
    unfolding function_run_by
    function_near =
        near_bind (near_each (λ e s s' h. near_equal (expression_same e s ∙ ap (expression_step L m done' f e) h)) (range 0 (expressions m f)) (start m f) (start m f) refl) (λ s s' h.
        near_bind (go_near _ 0 (statements m f) _ _ _ _ nothing nothing _ _ (ap (through (initialise m f) (range 0 (initialisers m f))) h) (alike nothing)) (λ w w' k.
        both_fine (record { state_same = ap (through (name m f) (range 0 (named m f))) k.state_same; outcome_alike = k.outcome_alike })))

-- a report is as long whatever may-kill is, so 14 comes by both or by neither
section_as_long : (y : Section) → length (section_bytes (but_may_kill y)) ≡ length (section_bytes y)
unfolding but_may_kill
section_as_long y = section_length (but_may_kill y) ∙ sym (section_length y)

bytes_as_long : (d : List Section) → length (concat_map section_bytes (map but_may_kill d)) ≡ length (concat_map section_bytes d)
unfolding concat_map
bytes_as_long [] = refl
bytes_as_long (y ∷ d) =
    let a = length-append (section_bytes (but_may_kill y)) (concat_map section_bytes (map but_may_kill d)) in
    let b = length-append (section_bytes y) (concat_map section_bytes d) in
    omega (arith, a, b, section_as_long y, bytes_as_long d)

module _ (L : Limits) (m : List ℕ) where
  report_as_long : (d d' : List Section) → SameButMayKill d d' → length (report L m d) ≡ length (report L m d')
  unfolding SameButMayKill
  report_as_long d d' e =
      let a : length (concat_map section_bytes (map but_may_kill d)) ≡ length (concat_map section_bytes (map but_may_kill d')) = ap (λ l. length (concat_map section_bytes l)) e in
      omega (arith, report_length L m d, report_length L m d', bytes_as_long d, bytes_as_long d', a)

  fits_same : (f : ℕ) (d d' : List Section) → SameButMayKill d d' → first (report_fits L m f d) ≡ first (report_fits L m f d')
  unfolding report_fits
  fits_same f d d' e = rw (report_as_long d d' e)

  one_more : (f : ℕ) (d d' : List Section) (w w' : Walked) → SameButMayKill d d' → Agree w w'
      → SameButMayKill (d ++ (section_of m f w ∷ [])) (d' ++ (section_of m f w' ∷ []))
  unfolding SameButMayKill but_may_kill section_of
  one_more f d d' w w' e h =
      map-append but_may_kill d (section_of m f w ∷ [])
      ∙ (rw (e, h.state_same, h.outcome_alike.origin_same, h.outcome_alike.requirements_same) (sym (map-append but_may_kill d' (section_of m f w' ∷ []))))

  module _ (one other : Rule) where
    sections_near : (n : ℕ) → Near SameButMayKill (sections_by one L m n) (sections_by other L m n)
    unfolding sections_by SameButMayKill
    sections_near zero = both_fine refl
    sections_near (suc f) =
        near_bind (sections_near f) (λ d d' e.
        near_bind (function_near L m f d d' e one other) (λ w w' h.
        let more = one_more f d d' w w' e h in
        near_bind (near_equal (fits_same f _ _ more)) (λ _ _ _. both_fine more)))

    -- by any two rules: both accept, and the sections differ in may-kill alone; or both refuse alike; or one of them refuses with 11
    pub answers_near : Near SameButMayKill (accepted_by one L m) (accepted_by other L m)
    unfolding accepted_by
    answers_near = near_bind (near_equal {c = form L m} refl) (λ _ _ _. sections_near (functions m))

  -- A2: by the rule before it and by the rule after it
  pub loops_near : Near SameButMayKill (accepted L m) (accepted_by old_next L m)
  loops_near = subst (λ v. Near SameButMayKill v (accepted_by old_next L m)) (sym (accepted_now L m)) (answers_near next old_next)

  -- A2: of a module that both accept, function by function, nothing but may-kill can differ
  pub loops_same : (d d' : List Section) → accepted L m ≡ fine d → accepted_by old_next L m ≡ fine d'
      → (f : ℕ) → but_may_kill (get_or d f no_section) ≡ but_may_kill (get_or d' f no_section)
  loops_same d d' e e' f = same_at d d' (near_fine (subst (λ v. Near SameButMayKill v (fine d')) e (subst (Near SameButMayKill (accepted L m)) e' loops_near))) f

-- The two rules do differ: what the old one says of the cases of a Loop's arms, may-kill by function or the refusal
may_kills : Checked (List Section) → Checked (List Bool)
may_kills c = c >>= λ d. fine (map (λ y. y.summary.may_kill) d)

old_answers : map (λ c. may_kills (accepted_by old_next version_1 c.bytes)) loops
    ≡ fine (false ∷ [])  -- 1 now
    ∷ fine (true ∷ [])
    ∷ fine (false ∷ [])  -- 11 now
    ∷ fine (true ∷ [])  -- 11 now
    ∷ fine (true ∷ [])  -- 11 now
    ∷ refused (record { number = 11; function = 0; place = 2; cause = 1; cause_number = 0 })
    ∷ fine (false ∷ [])
    ∷ refused (record { number = 11; function = 0; place = 2; cause = 3; cause_number = 0 })  -- cause Return now
    ∷ fine (true ∷ [])  -- 11 now
    ∷ fine (true ∷ true ∷ [])  -- 11 now
    ∷ fine (false ∷ false ∷ [])  -- 11 now
    ∷ fine (false ∷ [])
    ∷ fine (false ∷ [])
    ∷ fine (false ∷ [])
    ∷ []
unfolding run loops go_by function_run_by sections_by accepted_by old_next may_kills
old_answers = refl
