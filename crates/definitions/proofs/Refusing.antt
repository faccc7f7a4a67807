-- 8.1 What a run refuses with, whatever its bytes and its limits: one of the numbers that are given, 1 to 12, 14 and 15.
-- So no module, of right form or not, is refused with 13. First a law for each way in which steps are put together, then
-- the parts of document 01 in order.
use Prim.Native.Nat.{ℕ, zero, suc}
use mathlib.Core.List.{List, [], ◌∷◌}
use mathlib.Core.Path.{◌≡◌, refl, sym, subst}
use mathlib.Core.Bool.{Bool, true, false, ◌&&◌, not}
use lib.Dec.{ltb, leb, eqb}
use lib.ListN.{length}
use Rattle.definitions.specs.Limits.{Limits}
use Rattle.definitions.specs.Module.{functions, initialiser, named_at, kind, s_kind}
use Rattle.definitions.specs.Checks.{Refusal, refusal, Checked, refused, fine, ◌>>=◌, Check, ◌⇒◌, first, each, for_each}
use Rattle.definitions.specs.Form.{outer, module_counts, space_bytes, capability_code, space_code, sheet_header, argument_code, expression_form, statement_form, arms_form, listed_form, sheet_form, left_over, form}
use Rattle.definitions.specs.Ends.{Pair, Traced, reaches, neither, end_or_7, both_global}
use Rattle.definitions.specs.Pairs.{Lists, insert, within, enter, sample, replace, take_pair, take_pairs}
use Rattle.definitions.specs.State.{State}
use Rattle.definitions.specs.Summary.{Section}
use Rattle.definitions.specs.Expressions.{access, sampled, expression_step}
use Rattle.definitions.specs.Walk.{Disruptor, undisrupted, by_expression, by_return, by_discard, Outcome, non_uniform, stopped, emit_one, emitted, own_outcome, call, effect, own, go, onward, walk, walk_all}
use Rattle.definitions.specs.Analyse.{function_run, report_fits, sections, accepted, analyse}
use Rattle.definitions.specs.Answer.{lent, run_outcome}
use Rattle.definitions.proofs.Fold.{not_fine}
use Rattle.definitions.proofs.Order.{and_true}
use Rattle.definitions.proofs.Passed.{cond_keeps}

-- every refusal that a step gives is P
abbrev pub Refuses : {A : Type 0} → (Refusal → Type 0) → Checked A → Type 0
Refuses P o = (r : Refusal) → o ≡ refused r → P r

pub refused_inj : {A : Type 0} {r s : Refusal} → ◌≡◌ {A = Checked A} (refused r) (refused s) → r ≡ s
refused_inj e = cc

module _ (P : Refusal → Type 0) where
  pub fine_refuses : {A : Type 0} (a : A) → Refuses P (fine a)
  fine_refuses a r e = absurd (not_fine (sym e))

  pub refused_refuses : {A : Type 0} (x : Refusal) → P x → Refuses {A = A} P (refused x)
  refused_refuses x h r e = subst P (refused_inj e) h

  pub bind_refuses : {A B : Type 0} (o : Checked A) (k : A → Checked B) → Refuses P o → ((a : A) → Refuses P (k a)) → Refuses P (o >>= k)
  unfolding ◌>>=◌
  bind_refuses (refused x) k h g = refused_refuses x (h x refl)
  bind_refuses (fine a) k h g = g a

  pub each_refuses : {A S : Type 0} (step : A → S → Checked S) → ((a : A) (s : S) → Refuses P (step a s)) → (l : List A) (s : S) → Refuses P (each step l s)
  unfolding each
  each_refuses step law [] s = fine_refuses s
  each_refuses step law (a ∷ l) s = bind_refuses (step a s) _ (law a s) (λ s'. each_refuses step law l s')

-- 8.1 the numbers that are given
unfoldable pub given : ℕ → Bool
given n = leb 1 n && leb n 15 && not (eqb n 13)

abbrev pub Given : Refusal → Type 0
Given r = given r.number ≡ true

-- of a list of checks: computed, since each says its number
all_given : List Check → Bool
all_given [] = true
all_given (c ∷ cs) = given c.with_refusal.number && all_given cs

first_given : (cs : List Check) → all_given cs ≡ true → Refuses Given (first cs)
unfolding first all_given
first_given [] h = fine_refuses Given tt
first_given (c ∷ cs) h = let b = and_true _ _ h in go c.fails refl b.0 (first_given cs b.1)
  where
    go : (b : Bool) → c.fails ≡ b → Given c.with_refusal → Refuses Given (first cs) → Refuses Given (first (c ∷ cs))
    go true w g ih = rw (w, first) (refused_refuses Given c.with_refusal g)
    go false w g ih = rw (w, first) ih

for_each_given : (checks : ℕ → List Check) → ((i : ℕ) → all_given (checks i) ≡ true) → (l : List ℕ) → Refuses Given (for_each checks l)
unfolding for_each
for_each_given checks law l = each_refuses Given (λ i _. first (checks i)) (λ i s. first_given (checks i) (law i)) l tt

module _ (L : Limits) (m : List ℕ) where
  -- 2 Form
  sheet_given : (f : ℕ) (u : Unit {0}) → Refuses Given (sheet_form L m f u)
  unfolding sheet_form sheet_header argument_code expression_form statement_form arms_form listed_form ◌⇒◌ refusal all_given given
  sheet_given f u =
      bind_refuses Given _ _ (first_given (sheet_header L m f) refl) (λ _.
      bind_refuses Given _ _ (for_each_given (argument_code m f) (λ a. refl) _) (λ _.
      bind_refuses Given _ _ (for_each_given (expression_form m f) (λ e. refl) _) (λ _.
      bind_refuses Given _ _ (for_each_given (statement_form L m f) (λ t. refl) _) (λ _.
      bind_refuses Given _ _ (for_each_given (arms_form m f) (λ t. refl) _) (λ _.
      bind_refuses Given _ _ (for_each_given (listed_form m f (initialiser m f)) (λ i. refl) _) (λ _.
      for_each_given (listed_form m f (named_at m f)) (λ i. refl) _))))))

  form_given : Refuses Given (form L m)
  unfolding form outer module_counts space_bytes capability_code space_code left_over ◌⇒◌ refusal all_given given
  form_given =
      bind_refuses Given _ _ (first_given (outer L m) refl) (λ _.
      bind_refuses Given _ _ (first_given (module_counts L m) refl) (λ _.
      bind_refuses Given _ _ (first_given (space_bytes m) refl) (λ _.
      bind_refuses Given _ _ (first_given (capability_code m) refl) (λ _.
      bind_refuses Given _ _ (for_each_given (space_code m) (λ g. refl) _) (λ _.
      bind_refuses Given _ _ (each_refuses Given (sheet_form L m) sheet_given _ tt) (λ _.
      first_given (left_over m) refl))))))

  -- 4.3 to 4.6 Ends and pairs
  end_given : (f place : ℕ) (t : Traced) → Refuses Given (end_or_7 f place t)
  unfolding end_or_7 refusal given
  end_given f place (reaches x) = fine_refuses Given x
  end_given f place neither = refused_refuses Given (refusal 7 f place) refl

  enter_given : (full : Refusal) → Given full → (p : Pair) (l : Lists) → Refuses Given (enter L full p l)
  unfolding enter within
  enter_given full g p l =
      cond_keeps (Refuses Given) (both_global p) _ _
      (bind_refuses Given _ _ (in_limit (insert p l.pairs)) (λ ps. fine_refuses Given _))
      (bind_refuses Given _ _ (in_limit (insert p l.mixed)) (λ ps. fine_refuses Given _))
    where
      in_limit : (ps : List Pair) → Refuses Given (within L full ps)
      in_limit ps = cond_keeps (Refuses Given) (leb (length ps) L.pairs) _ _ (fine_refuses Given ps) (refused_refuses Given full g)

  -- 3 Expressions
  sampled_given : (f e : ℕ) (l : Lists) → Refuses Given (sampled L m f e l)
  unfolding sampled sample refusal given
  sampled_given f e l =
      cond_keeps (Refuses Given) (eqb (kind m f e) 13) _ _
      (bind_refuses Given _ _ (end_given f e _) (λ i.
      bind_refuses Given _ _ (end_given f e _) (λ s.
      enter_given (refusal 12 f e) refl _ l)))
      (fine_refuses Given l)

  step_given : (done : List Section) (f e : ℕ) (s : State) → Refuses Given (expression_step L m done f e s)
  unfolding expression_step access ◌⇒◌ refusal all_given given
  step_given done f e s =
      bind_refuses Given _ _ (first_given (access m f e s) refl) (λ _.
      bind_refuses Given _ _ (sampled_given f e s.lists) (λ l. fine_refuses Given _))

  -- 5 Statements
  pair_given : (f t : ℕ) (p : Pair) (l : Lists) → Refuses Given (take_pair L m f t p l)
  unfolding take_pair replace refusal given
  pair_given f t p l =
      bind_refuses Given _ _ (end_given f _ _) (λ i.
      bind_refuses Given _ _ (end_given f _ _) (λ s.
      enter_given (refusal 12 f t) refl _ l))

  effect_given : (done : List Section) (f t : ℕ) (s : State) → Refuses Given (effect L m done f t s)
  unfolding effect call take_pairs
  effect_given done f t s =
      cond_keeps (Refuses Given) (eqb (s_kind m f t) 6) _ _
      (bind_refuses Given _ _ (each_refuses Given (take_pair L m f t) (pair_given f t) _ _) (λ l. fine_refuses Given _))
      (fine_refuses Given _)

  disrupted_given : (f e : ℕ) (d : Disruptor) → Given (non_uniform f e d)
  unfolding non_uniform refusal given
  disrupted_given f e undisrupted = refl
  disrupted_given f e (by_expression x) = refl
  disrupted_given f e by_return = refl
  disrupted_given f e by_discard = refl

  outcome_given : (done : List Section) (f t : ℕ) (d : Disruptor) (s : State) → Refuses Given (own_outcome m done f t d s)
  unfolding own_outcome emitted emit_one
  outcome_given done f t d s =
      cond_keeps (Refuses Given) (eqb (s_kind m f t) 0) _ _ (bind_refuses Given _ _ (each_refuses Given (emit_one m f d s) one _ 0) (λ r. fine_refuses Given _))
      (cond_keeps (Refuses Given) (eqb (s_kind m f t) 2) _ _ (fine_refuses Given _)
      (cond_keeps (Refuses Given) (eqb (s_kind m f t) 3) _ _ (fine_refuses Given _)
      (cond_keeps (Refuses Given) (eqb (s_kind m f t) 4) _ _ (fine_refuses Given _)
      (cond_keeps (Refuses Given) (eqb (s_kind m f t) 6) _ _ (fine_refuses Given _) (fine_refuses Given _)))))
    where
      one : (e r : ℕ) → Refuses Given (emit_one m f d s e r)
      one e r = cond_keeps (Refuses Given) (stopped m f d s e) _ _ (refused_refuses Given (non_uniform f e d) (disrupted_given f e d)) (fine_refuses Given _)

  own_given : (done : List Section) (f t : ℕ) (d : Disruptor) (s : State) → Refuses Given (own L m done f t d s)
  unfolding own
  own_given done f t d s =
      bind_refuses Given _ _ (effect_given done f t s) (λ s'.
      bind_refuses Given _ _ (outcome_given done f t d s') (λ o. fine_refuses Given _))

  go_given : (done : List Section) (f n at hi : ℕ) (b d : Disruptor) (out : Outcome) (s : State) → Refuses Given (go n L m done f at hi b d out s)
  unfolding go
  go_given done f zero at hi b d out s = fine_refuses Given _
  go_given done f (suc n) at hi b d out s = pick (ltb at hi) refl (λ x y z u v s₁. go_given done f n x y z u v s₁)
    where
      Again : Type 0
      Again = (x y : ℕ) (z u : Disruptor) (v : Outcome) (s₁ : State) → Refuses Given (go n L m done f x y z u v s₁)

      pick : (t : Bool) → ltb at hi ≡ t → Again → Refuses Given (go (suc n) L m done f at hi b d out s)
      pick true t ih = rw (t, go) (bind_refuses Given _ _ (own_given done f at d s) (λ a. bind_refuses Given _ _ (ih _ _ _ _ _ _) (λ c. ih _ _ _ _ _ _)))
      pick false t ih = rw (t, go) (fine_refuses Given _)

  -- 6 A function, and the module
  function_given : (done : List Section) (f : ℕ) → Refuses Given (function_run L m done f)
  unfolding function_run walk_all walk onward
  function_given done f =
      bind_refuses Given _ _ (each_refuses Given (expression_step L m done f) (step_given done f) _ _) (λ s.
      bind_refuses Given _ _ (go_given done f _ _ _ _ _ _ _) (λ w. fine_refuses Given _))

  sections_given : (n : ℕ) → Refuses Given (sections L m n)
  unfolding sections report_fits ◌⇒◌ refusal all_given given
  sections_given zero = fine_refuses Given []
  sections_given (suc f) =
      bind_refuses Given _ _ (sections_given f) (λ done.
      bind_refuses Given _ _ (function_given done f) (λ w.
      bind_refuses Given _ _ (first_given (report_fits L m f _) refl) (λ _. fine_refuses Given _)))

  pub analyse_given : Refuses Given (analyse L m)
  unfolding analyse accepted
  analyse_given =
      bind_refuses Given _ _ (bind_refuses Given _ _ form_given (λ _. sections_given (functions m))) (λ done. fine_refuses Given _)

  -- 9.2 and whatever is lent
  pub run_given : (report work : ℕ) → Refuses Given (run_outcome L m report work)
  unfolding run_outcome lent ◌⇒◌ refusal all_given given
  run_given report work = bind_refuses Given _ _ (first_given (lent L report work) refl) (λ _. analyse_given)
