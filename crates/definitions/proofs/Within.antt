-- Every section that the rules give keeps to its limits. Each origin is none or below the limit on expressions, also
-- where it is a callee's; each mask has four bits; each assignable global is one of the module's; there is one use for
-- each global and one entry for each expression; the lists ascend within their limit, and name what is there.
use Prim.Native.Nat.{ℕ, zero, suc, ◌+◌, ◌≤◌, ◌<◌}
use native.Mathlib.Omega.{arith}
use mathlib.Core.List.{List, [], ◌∷◌, ◌++◌, map}
use mathlib.Core.Path.{◌≡◌, refl, sym, ap, ◌∙◌, subst}
use mathlib.Core.Logic.{inl, inr}
use mathlib.Core.Bool.{Bool, true, false, cond}
use mathlib.Core.Option.{Option, none, some}
use lib.Dec.{eqb, ltb, lit≤}
use lib.ListN.{length, get_or, set, length-set, length-replicate, get_or-eq_default, length-map}
use borrow.Author.Tests.{eqb-true, ltb-true, ltb-false}
use Rattle.definitions.specs.Bytes.{range}
use Rattle.definitions.specs.Limits.{Limits}
use Rattle.definitions.specs.Module.{globals, functions, arguments, expressions, initialisers, named, kind, sub, number, s_kind, s_count, s_operand, s_number, s_end}
use Rattle.definitions.specs.Codes.{QUERY, join}
use Rattle.definitions.specs.Checks.{Checked, fine, refused, ◌>>=◌, through}
use Rattle.definitions.specs.Roles.{Use, R, Q, C, W}
use Rattle.definitions.specs.Ends.{Pair}
use Rattle.definitions.specs.Origin.{Origin, nowhere, from_expression, or_else}
use Rattle.definitions.specs.State.{State, start, Known, unknown, known_of, Operand, operands_of, s_operands_of, mark, marked, refer, refer_all, handed_by, carry, carried}
use Rattle.definitions.specs.Summary.{Section, Summary, no_section, summary_of, Entry}
use Rattle.definitions.specs.Expressions.{first_origin, own_origin, origin_of, requirements_of, own_global, with_expression, expression_step}
use Rattle.definitions.specs.Walk.{Disruptor, Outcome, nothing, joined, requiring, non_uniform, stopped, emit_one, operand_origin, emitted, own_outcome, join_uses, called, call, effect, Walked, own, inside_start, next, go, onward, walk, walk_all}
use Rattle.definitions.specs.Analyse.{initialise, query_unused, name, function_run, entry_of, section_of, sections, accepted}
use Rattle.definitions.specs.Chains.{Mem}
use Rattle.definitions.proofs.Fold.{bind_fine, fine_inj, not_fine, each_keeps, each_keeps_in}
use Rattle.definitions.proofs.Passed.{cond_keeps}
use Rattle.definitions.proofs.Ranges.{range_from}
use Rattle.definitions.proofs.Runs.{range_length}
use Rattle.definitions.proofs.Masks.{Masked, join_masked, none_masked, marked_masked, join_uses_masked, query_masked, own_masked, barrier_masked}
use Rattle.definitions.proofs.Formed.{SheetFormed, Formed, global_in}
use Rattle.definitions.proofs.Enter.{Has, Kept}
use Rattle.definitions.proofs.Step.{went, function_kept, function_from}
use Rattle.definitions.proofs.EndsIn.{EndsIn, found_in}
use Rattle.definitions.proofs.Modules.{up_to, by_functions, accepted_formed}
use Rattle.definitions.proofs.Reading.{OriginBelow, GlobalBelow}

-- what is known of an expression: its origin is below n, its assignable global below g
pub record KnownWithin (n g : ℕ) (k : Known) : Type 0 where
  pub origin_below : OriginBelow n k.origin
  pub masked : k.requirements ≤ 15
  pub global_below : GlobalBelow g k.assignable

-- of the state, of a statement's outcome, and of a function that is done
record StateWithin (L : Limits) (m : List ℕ) (s : State) : Type 0 where
  use_each : length s.uses ≡ globals m
  uses_masked : Masked s.uses
  knows : (e : ℕ) → KnownWithin L.expressions (globals m) (known_of s e)

record OutcomeWithin (L : Limits) (o : Outcome) : Type 0 where
  origin_below : OriginBelow L.expressions o.origin
  masked : o.requirements ≤ 15

pub record SummaryWithin (L : Limits) (y : Summary) : Type 0 where
  pub origin_below : OriginBelow L.expressions y.origin
  pub masked : y.requirements ≤ 15
  pub uses_masked : Masked y.uses

unknown_within : (n g : ℕ) → KnownWithin n g unknown
unfolding unknown
unknown_within n g = record { origin_below = tt; masked = lit≤ tt; global_below = tt }

else_below : (n : ℕ) (a b : Origin) → OriginBelow n a → OriginBelow n b → OriginBelow n (or_else a b)
unfolding or_else
else_below n nowhere b h k = k
else_below n (from_expression e) b h k = h

-- one more at the end of a list
snoc_keeps : {A : Type 0} (P : A → Type 0) (d : A) → P d → (l : List A) (x : A) → ((e : ℕ) → P (get_or l e d)) → P x → (e : ℕ) → P (get_or (l ++ (x ∷ [])) e d)
snoc_keeps P d pd [] x h k zero = k
snoc_keeps P d pd [] x h k (suc e) = pd
snoc_keeps P d pd (y ∷ l) x h k zero = h 0
snoc_keeps P d pd (y ∷ l) x h k (suc e) = snoc_keeps P d pd l x (λ i. h (suc i)) k e

-- lengths of uses
mark_length : (u : ℕ) (g : Option ℕ) (l : List ℕ) → length (mark u g l) ≡ length l
unfolding mark
mark_length u none l = refl
mark_length u (some g) l = length-set l g _

marked_length : (u : Use) (g : Option ℕ) (l : List ℕ) → length (marked u g l) ≡ length l
unfolding marked
marked_length R g l = mark_length _ g l
marked_length Q g l = mark_length _ g l
marked_length W g l = mark_length _ g l
marked_length C g l = refl

join_uses_length : (xs ys : List ℕ) → length (join_uses xs ys) ≡ length xs
unfolding join_uses
join_uses_length [] ys = refl
join_uses_length (x ∷ xs) [] = refl
join_uses_length (x ∷ xs) (y ∷ ys) = ap suc (join_uses_length xs ys)

query_length : (g : Option ℕ) (l : List ℕ) → length (query_unused g l) ≡ length l
unfolding query_unused
query_length none l = refl
query_length (some g) l = cond_keeps (λ v. length v ≡ length l) (eqb (get_or l g QUERY) 0) (set l g QUERY) l (length-set l g QUERY) refl

-- what an expression carries
handed_below : (n : ℕ) (u : Use) (g : Option ℕ) → GlobalBelow n g → GlobalBelow n (handed_by u g)
unfolding handed_by
handed_below n R g h = tt
handed_below n Q g h = tt
handed_below n W g h = tt
handed_below n C g h = h

carry_below : (n : ℕ) (handed now : Option ℕ) → GlobalBelow n handed → GlobalBelow n now → GlobalBelow n (carry handed now)
unfolding carry
carry_below n none now h k = k
carry_below n (some g) now h k = h

module _ (L : Limits) (m : List ℕ) where
  Within : State → Type 0
  Within s = StateWithin L m s

  refer_within : (o : Operand) (s : State) → Within s → Within (refer o s)
  unfolding refer known_of Within
  refer_within o s i = record {
    use_each = marked_length o.does _ s.uses ∙ i.use_each;
    uses_masked = marked_masked o.does _ s.uses i.uses_masked;
    knows = i.knows;
  }

  refer_all_within : (os : List Operand) (s : State) → Within s → Within (refer_all os s)
  unfolding refer_all through
  refer_all_within [] s i = i
  refer_all_within (o ∷ os) s i = refer_all_within os (refer o s) (refer_within o s i)

  start_within : (f : ℕ) → Within (start m f)
  unfolding start known_of Within
  start_within f = record { use_each = length-replicate (globals m) 0; uses_masked = none_masked (globals m); knows = λ e. unknown_within _ _ }

  first_below : (os : List Operand) (s : State) → Within s → OriginBelow L.expressions (first_origin os s)
  unfolding first_origin Within
  first_below [] s i = tt
  first_below (o ∷ os) s i = else_below L.expressions _ (first_origin os s) (i.knows o.target).origin_below (first_below os s i)

  carried_below : (os : List Operand) (s : State) (own : Option ℕ) → Within s → GlobalBelow (globals m) own → GlobalBelow (globals m) (carried os s own)
  unfolding carried through Within
  carried_below [] s own i k = k
  carried_below (o ∷ os) s own i k =
      carried_below os s _ i (carry_below (globals m) _ own (handed_below (globals m) o.does _ (i.knows o.target).global_below) k)

  initialise_within : (f : ℕ) (l : List ℕ) (s : State) → Within s → Within (through (initialise m f) l s)
  unfolding through initialise
  initialise_within f [] s i = i
  initialise_within f (j ∷ l) s i = initialise_within f l _ (refer_within _ s i)

  name_within : (f : ℕ) (l : List ℕ) (s : State) → Within s → Within (through (name m f) l s)
  unfolding through name known_of Within
  name_within f [] s i = i
  name_within f (j ∷ l) s i = name_within f l _ (record {
    use_each = query_length _ s.uses ∙ i.use_each;
    uses_masked = query_masked _ s.uses i.uses_masked;
    knows = i.knows;
  })

  module _ (formed : Formed L m) (done : List Section) (f : ℕ) (in_range : f < functions m) (below : (g : ℕ) → SummaryWithin L (summary_of done g)) where
    sheet : SheetFormed L m f
    sheet = formed.each_sheet f in_range

    origin_within : (e : ℕ) → e < expressions m f → (s : State) → Within s → OriginBelow L.expressions (origin_of m done f e s)
    unfolding origin_of
    origin_within e h s i =
        let a = sheet.few_expressions in
        let lt : e < L.expressions = omega arith in
        cond_keeps (OriginBelow L.expressions) (own_origin m f e) _ _ lt
        (cond_keeps (OriginBelow L.expressions) (eqb (kind m f e) 4) _ _ (below (number m f e)).origin_below (first_below (operands_of m f e) s i))

    requirements_masked : (e : ℕ) → requirements_of m done f e ≤ 15
    unfolding requirements_of
    requirements_masked e = cond_keeps (λ r. r ≤ 15) (eqb (kind m f e) 4) _ _ (below (number m f e)).masked (own_masked (kind m f e) (sub m f e))

    own_below : (e : ℕ) → e < expressions m f → GlobalBelow (globals m) (own_global m f e)
    unfolding own_global
    own_below e h = go (eqb (kind m f e) 2) refl
      where
        go : (b : Bool) → eqb (kind m f e) 2 ≡ b → GlobalBelow (globals m) (cond b (some (number m f e)) none)
        go true w = global_in m f e (sheet.each_expression e h) (eqb-true _ _ w)
        go false w = tt

    expression_within : (e : ℕ) → e < expressions m f → (s s' : State) → expression_step L m done f e s ≡ fine s' → Within s → Within s'
    unfolding expression_step with_expression known_of Within
    expression_within e h s s' q i =
        let a = bind_fine _ _ q in
        let b = bind_fine _ _ a.2 in
        let r = refer_all_within (operands_of m f e) s i in
        subst Within (fine_inj b.2) (record {
          use_each = r.use_each;
          uses_masked = r.uses_masked;
          knows = snoc_keeps (KnownWithin L.expressions (globals m)) unknown (unknown_within _ _) s.known _ i.knows (record {
            origin_below = origin_within e h s i;
            masked = requirements_masked e;
            global_below = carried_below (operands_of m f e) s (own_global m f e) i (own_below e h);
          });
        })

    effect_within : (t : ℕ) (s s' : State) → effect L m done f t s ≡ fine s' → Within s → Within s'
    unfolding effect call called known_of Within
    effect_within t s s' q i = go (eqb (s_kind m f t) 6) refl
      where
        r : Within (refer_all (s_operands_of m f t) s)
        r = refer_all_within (s_operands_of m f t) s i

        go : (b : Bool) → eqb (s_kind m f t) 6 ≡ b → Within s'
        go true w =
            let a = bind_fine _ _ (rw (w, effect) at q) in
            subst Within (fine_inj a.2) (record {
              use_each = join_uses_length _ _ ∙ r.use_each;
              uses_masked = join_uses_masked _ _ r.uses_masked (below (s_number m f t)).uses_masked;
              knows = r.knows;
            })
        go false w = subst Within (fine_inj (rw (w, effect) at q)) r

    operand_below : (t : ℕ) (s : State) → Within s → OriginBelow L.expressions (operand_origin m f t s)
    unfolding operand_origin Within
    operand_below t s i = cond_keeps (OriginBelow L.expressions) (eqb (s_count m f t) 0) nowhere _ tt (i.knows (s_operand m f t 0)).origin_below

    -- 5.2 the requirements of an Emit's range
    emitted_masked : (t : ℕ) (d : Disruptor) (s : State) (r : ℕ) → emitted m f t d s ≡ fine r → Within s → r ≤ 15
    unfolding emitted emit_one Within
    emitted_masked t d s r q i = each_keeps (emit_one m f d s) (λ v. v ≤ 15) one _ 0 r q (lit≤ tt)
      where
        one : (e v v' : ℕ) → emit_one m f d s e v ≡ fine v' → v ≤ 15 → v' ≤ 15
        one e v v' p h = by_test (stopped m f d s e) p
          where
            by_test : (b : Bool) → cond b (refused (non_uniform f e d)) (fine (join v (known_of s e).requirements)) ≡ fine v' → v' ≤ 15
            by_test true p = absurd (not_fine p)
            by_test false p = subst (λ x. x ≤ 15) (fine_inj p) (join_masked v (known_of s e).requirements h (i.knows e).masked)

    GivesWithin : Checked Outcome → Type 0
    GivesWithin c = (o : Outcome) → c ≡ fine o → OutcomeWithin L o

    gives : (o : Outcome) → OriginBelow L.expressions o.origin → o.requirements ≤ 15 → GivesWithin (fine o)
    unfolding GivesWithin
    gives o h k p e = subst (OutcomeWithin L) (fine_inj e) (record { origin_below = h; masked = k })

    emits : (t : ℕ) (d : Disruptor) (s : State) → Within s → GivesWithin (emitted m f t d s >>= λ r. fine (requiring r))
    unfolding GivesWithin requiring
    emits t d s i o e =
        let a = bind_fine (emitted m f t d s) _ e in
        subst (OutcomeWithin L) (fine_inj a.2) (record { origin_below = tt; masked = emitted_masked t d s a.0 a.1 i })

    outcome_within : (t : ℕ) (d : Disruptor) (s : State) → Within s → GivesWithin (own_outcome m done f t d s)
    unfolding own_outcome requiring nothing
    outcome_within t d s i =
        cond_keeps GivesWithin (eqb (s_kind m f t) 0) _ _ (emits t d s i)
        (cond_keeps GivesWithin (eqb (s_kind m f t) 2) _ _ (gives _ tt (lit≤ tt))
        (cond_keeps GivesWithin (eqb (s_kind m f t) 3) _ _ (gives _ tt barrier_masked)
        (cond_keeps GivesWithin (eqb (s_kind m f t) 4) _ _ (gives _ (operand_below t s i) (lit≤ tt))
        (cond_keeps GivesWithin (eqb (s_kind m f t) 6) _ _ (gives _ (below (s_number m f t)).origin_below (below (s_number m f t)).masked) (gives _ tt (lit≤ tt))))))

    -- the walk keeps both, whatever the bound and the extent
    Held : Walked → Type 0
    Held w = Within w.state × OutcomeWithin L w.outcome

    own_held : (t : ℕ) (d : Disruptor) (s : State) (w : Walked) → own L m done f t d s ≡ fine w → Within s → Held w
    unfolding own Held GivesWithin
    own_held t d s w q i =
        let a = bind_fine _ _ q in
        let b = bind_fine _ _ a.2 in
        let g = effect_within t s a.0 a.1 i in
        subst Held (fine_inj b.2) (g, outcome_within t d a.0 g b.0 b.1)

    nothing_within : OutcomeWithin L nothing
    unfolding nothing
    nothing_within = record { origin_below = tt; masked = lit≤ tt }

    joined_within : (x y : Outcome) → OutcomeWithin L x → OutcomeWithin L y → OutcomeWithin L (joined x y)
    unfolding joined
    joined_within x y h k = record {
      origin_below = else_below L.expressions x.origin y.origin h.origin_below k.origin_below;
      masked = join_masked x.requirements y.requirements h.masked k.masked;
    }

    go_held : (n at hi : ℕ) (b d : Disruptor) (out : Outcome) (s : State) (w : Walked) → go n L m done f at hi b d out s ≡ fine w → Within s → OutcomeWithin L out → Held w
    unfolding go Held
    go_held zero at hi b d out s w q i o = subst Held (fine_inj q) (i, o)
    go_held (suc n) at hi b d out s w q i o = pick (ltb at hi) refl (λ x y z u v s₁ w₁. go_held n x y z u v s₁ w₁)
      where
        Again : Type 0
        Again = (x y : ℕ) (z u : Disruptor) (v : Outcome) (s₁ : State) (w₁ : Walked) → go n L m done f x y z u v s₁ ≡ fine w₁ → Within s₁ → OutcomeWithin L v → Held w₁

        rest : Again → (a c : Walked) → Held a → Held c
            → go n L m done f (s_end m f at) hi b (next m f at b d (joined a.outcome c.outcome)) (joined out (joined a.outcome c.outcome)) c.state ≡ fine w → Held w
        rest ih a c ha hc e = ih _ _ _ _ _ c.state w e hc.0 (joined_within out (joined a.outcome c.outcome) o (joined_within a.outcome c.outcome ha.1 hc.1))

        held : Again → (a : Walked) → Held a
            → (go n L m done f (at + 1) (s_end m f at) (inside_start m f at d a.state) (inside_start m f at d a.state) nothing a.state >>= λ c.
            go n L m done f (s_end m f at) hi b (next m f at b d (joined a.outcome c.outcome)) (joined out (joined a.outcome c.outcome)) c.state) ≡ fine w
            → Held w
        held ih a ha e = let y = bind_fine _ _ e in rest ih a y.0 ha (ih _ _ _ _ nothing a.state y.0 y.1 ha.0 nothing_within) y.2

        pick : (t : Bool) → ltb at hi ≡ t → Again → Held w
        pick true t ih = let x = bind_fine (own L m done f at d s) _ (rw (t, go) at q) in held ih x.0 (own_held at d s x.0 x.1 i) x.2
        pick false t ih = subst Held (fine_inj (rw (t, go) at q)) (i, o)

    function_held : (w : Walked) → function_run L m done f ≡ fine w → Held w
    unfolding walk_all walk onward Held
    function_held w ran =
        let r = went L m done f sheet w ran in
        let i₁ = each_keeps_in (expression_step L m done f) Within (range 0 (expressions m f))
        (λ e q s s' p i. expression_within e (let x = range_from 0 _ e q in omega arith) s s' p i) (start m f) r.s₁ r.expressed (start_within f) in
        let i₂ = initialise_within f (range 0 (initialisers m f)) r.s₁ i₁ in
        let i₃ = go_held _ _ _ _ _ nothing _ r.v r.walked i₂ nothing_within in
        subst Held r.left (name_within f (range 0 (named m f)) r.v.state i₃.0, i₃.1)

-- one section
pub record SectionWithin (L : Limits) (m : List ℕ) (f : ℕ) (y : Section) : Type 0 where
  pub told : SummaryWithin L y.summary
  pub a_use_each : length y.summary.uses ≡ globals m
  pub an_entry_each : length y.entries ≡ expressions m f
  pub each_entry : (x : Entry) → Mem x y.entries → KnownWithin L.expressions (globals m) x.known
  pub lists_kept : Kept L y.summary.lists
  pub ends_there : (x : Pair) → Has x y.summary.lists → EndsIn (globals m) (arguments m f) x

entries_within : (L : Limits) (m : List ℕ) (s : State) → StateWithin L m s → (l : List ℕ) (x : Entry) → Mem x (map (entry_of s) l) → KnownWithin L.expressions (globals m) x.known
unfolding entry_of
entries_within L m s i [] x k = absurd k
entries_within L m s i (e ∷ l) x (inl k) = subst (λ v. KnownWithin L.expressions (globals m) v.known) (sym k) (i.knows e)
entries_within L m s i (e ∷ l) x (inr k) = entries_within L m s i l x k

-- a function past those that are done has no section, and nothing is known of it
outside : (L : Limits) (done : List Section) (f : ℕ) → length done ≡ f → ((g : ℕ) → g < f → SummaryWithin L (get_or done g no_section).summary) → (g : ℕ) → SummaryWithin L (summary_of done g)
unfolding summary_of no_section
outside L done f len below g = go (ltb g f) refl
  where
    go : (b : Bool) → ltb g f ≡ b → SummaryWithin L (get_or done g no_section).summary
    go true w = below g (ltb-true g f w)
    go false w =
        let a = ltb-false g f w in
        subst (λ v. SummaryWithin L v.summary) (sym (get_or-eq_default done no_section (omega arith)))
        (record { origin_below = tt; masked = lit≤ tt; uses_masked = none_masked 0 })

module _ (L : Limits) (m : List ℕ) (formed : Formed L m) where
  section_within : (f : ℕ) (done : List Section) (w : Walked) → f < functions m → length done ≡ f → function_run L m done f ≡ fine w
      → ((g : ℕ) → g < f → SectionWithin L m g (get_or done g no_section)) → SectionWithin L m f (section_of m f w)
  unfolding section_of summary_of Held Within
  section_within f done w lt len ran below =
      let sheet = formed.each_sheet f lt in
      let h = function_held L m formed done f lt (outside L done f len (λ g k. (below g k).told)) w ran in
      record {
        told = record { origin_below = h.1.origin_below; masked = h.1.masked; uses_masked = h.0.uses_masked };
        a_use_each = h.0.use_each;
        an_entry_each = length-map (range 0 (expressions m f)) (entry_of w.state) ∙ range_length 0 (expressions m f);
        each_entry = entries_within L m w.state h.0 (range 0 (expressions m f));
        lists_kept = function_kept L m done f sheet w ran;
        ends_there = λ x has. found_in L m f sheet done (λ g k. (below g k).ends_there) x (function_from L m done f sheet w ran x has);
      }

  -- of the functions that are done so far
  pub sections_within : (n : ℕ) → n ≤ functions m → (d : List Section) → sections L m n ≡ fine d → (f : ℕ) → f < n → SectionWithin L m f (get_or d f no_section)
  sections_within n h d e = up_to L m (SectionWithin L m) section_within n h d e

-- and of an accepted module
pub accepted_within : (L : Limits) (m : List ℕ) (d : List Section) → accepted L m ≡ fine d → (f : ℕ) → f < functions m → SectionWithin L m f (get_or d f no_section)
accepted_within L m d e = by_functions L m (SectionWithin L m) (section_within L m (accepted_formed L m d e)) d e
