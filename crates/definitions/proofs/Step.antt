-- One expression, one statement, one function: what each adds to the lists, and that nothing else touches them.
use Prim.Native.Nat.{ℕ, ◌<◌}
use native.Mathlib.Omega.{arith}
use mathlib.Core.List.{List, [], ◌∷◌, ◌++◌}
use mathlib.Core.Path.{◌≡◌, refl, sym, ap, ◌∙◌, subst}
use mathlib.Core.Logic.{◌⊎◌, inl, inr}
use mathlib.Core.Bool.{Bool, true, false}
use lib.Dec.{eqb}
use borrow.Author.Tests.{eqb-true, eqb-false}
use Rattle.definitions.specs.Bytes.{range}
use Rattle.definitions.specs.Limits.{Limits}
use Rattle.definitions.specs.Module.{kind, expressions, statements, initialisers, named, operand, s_kind, s_number}
use Rattle.definitions.specs.Checks.{fine, each, through}
use Rattle.definitions.specs.Ends.{Pair, reaches, trace, replaced}
use Rattle.definitions.specs.Pairs.{Lists, no_pairs, take_pair, take_pairs}
use Rattle.definitions.specs.State.{State, start, Operand, refer, refer_all, s_operands_of}
use Rattle.definitions.specs.Summary.{Section, Summary, summary_of}
use Rattle.definitions.specs.Expressions.{sampled, with_expression, expression_step}
use Rattle.definitions.specs.Walk.{Walked, called, call, effect, walk_all}
use Rattle.definitions.specs.Analyse.{initialise, name, function_run}
use Rattle.definitions.specs.Chains.{Mem}
use Rattle.definitions.proofs.Fold.{bind_fine, fine_inj, each_from, each_to, each_keeps, each_at}
use Rattle.definitions.proofs.Ranges.{range_from, range_to, append_from, append_to}
use Rattle.definitions.proofs.Formed.{SheetFormed}
use Rattle.definitions.proofs.Extents.{visits_all}
use Rattle.definitions.proofs.Enter.{Has, Kept, none_kept, none_has, Took, took_from, took_to, took_kept, sample_took, take_took}

abbrev pub HasS : Pair → State → Type 0
HasS z s = Has z s.lists

abbrev pub lists_of : List Section → ℕ → Lists
lists_of done g = (summary_of done g).lists

-- steps that touch no list
pub through_keeps : {A S B : Type 0} (of : S → B) (step : A → S → S) → ((a : A) (s : S) → of (step a s) ≡ of s) → (l : List A) (s : S) → of (through step l s) ≡ of s
unfolding through
through_keeps of step law [] s = refl
through_keeps of step law (a ∷ l) s = through_keeps of step law l (step a s) ∙ law a s

refer_all_lists : (os : List Operand) (s : State) → (refer_all os s).lists ≡ s.lists
unfolding refer_all refer
refer_all_lists os s = through_keeps (λ v. v.lists) refer (λ o v. refl) os s

-- a sampling expression
unfoldable pub Samples : List ℕ → ℕ → ℕ → Pair → Type 0
Samples m f e z = (kind m f e ≡ 13) × (trace m f (operand m f e 0) ≡ reaches z.image) × (trace m f (operand m f e 1) ≡ reaches z.sampler)

data Sampled (L : Limits) (m : List ℕ) (f e : ℕ) (l l' : Lists) : Type 0 where
  is : kind m f e ≡ 13 → Took L (trace m f (operand m f e 0)) (trace m f (operand m f e 1)) l l' → Sampled L m f e l l'
  isn't : (kind m f e ≡ 13 → ⊥) → l ≡ l' → Sampled L m f e l l'

-- a Call, given the callee's lists
unfoldable pub Takes : List ℕ → ℕ → ℕ → Pair → Pair → Type 0
Takes m f t q z = (replaced m f t q.image ≡ reaches z.image) × (replaced m f t q.sampler ≡ reaches z.sampler)

unfoldable pub Calls : List ℕ → List Section → ℕ → ℕ → Pair → Type 0
Calls m done f t z = (s_kind m f t ≡ 6) × (q : Pair) × Has q (lists_of done (s_number m f t)) × Takes m f t q z

module _ (L : Limits) (m : List ℕ) (done : List Section) (f : ℕ) where
  sampled_at : (e : ℕ) (l l' : Lists) → sampled L m f e l ≡ fine l' → Sampled L m f e l l'
  unfolding sampled
  sampled_at e l l' h = go (eqb (kind m f e) 13) refl
    where
      go : (b : Bool) → eqb (kind m f e) 13 ≡ b → Sampled L m f e l l'
      go true w = is (eqb-true _ _ w) (sample_took L m f e l l' (rw (w, sampled) at h))
      go false w = isn't (eqb-false _ _ w) (fine_inj (rw (w, sampled) at h))

  sampling : (e : ℕ) (s s' : State) → expression_step L m done f e s ≡ fine s' → Sampled L m f e s.lists s'.lists
  unfolding expression_step with_expression
  sampling e s s' h =
      let a = bind_fine _ _ h in
      let b = bind_fine _ _ a.2 in
      subst (λ v. Sampled L m f e s.lists v.lists) (fine_inj b.2) (sampled_at e s.lists b.0 b.1)

  sample_from : (e : ℕ) (s s' : State) → expression_step L m done f e s ≡ fine s' → (z : Pair) → HasS z s' → HasS z s ⊎ Samples m f e z
  unfolding Samples
  sample_from e s s' h z k = go (sampling e s s' h)
    where
      add : kind m f e ≡ 13 → HasS z s ⊎ ((trace m f (operand m f e 0) ≡ reaches z.image) × (trace m f (operand m f e 1) ≡ reaches z.sampler)) → HasS z s ⊎ Samples m f e z
      add w (inl a) = inl a
      add w (inr a) = inr (w, a.0, a.1)

      go : Sampled L m f e s.lists s'.lists → HasS z s ⊎ Samples m f e z
      go (is w t) = add w (took_from t z k)
      go (isn't w q) = inl (subst (Has z) (sym q) k)

  sample_to : (e : ℕ) (s s' : State) → expression_step L m done f e s ≡ fine s' → (z : Pair) → HasS z s ⊎ Samples m f e z → HasS z s'
  unfolding Samples
  sample_to e s s' h z k = go (sampling e s s' h) k
    where
      go : Sampled L m f e s.lists s'.lists → HasS z s ⊎ Samples m f e z → HasS z s'
      go (is w t) (inl a) = took_to t z (inl a)
      go (is w t) (inr a) = took_to t z (inr (a.1, a.2))
      go (isn't w q) (inl a) = subst (Has z) q a
      go (isn't w q) (inr a) = absurd (w a.0)

  sample_kept : (e : ℕ) (s s' : State) → expression_step L m done f e s ≡ fine s' → Kept L s.lists → Kept L s'.lists
  sample_kept e s s' h k = go (sampling e s s' h)
    where
      go : Sampled L m f e s.lists s'.lists → Kept L s'.lists
      go (is w t) = took_kept t k
      go (isn't w q) = subst (Kept L) q k

  data Called (t : ℕ) (l l' : Lists) : Type 0 where
    is : s_kind m f t ≡ 6 → take_pairs L m f t (lists_of done (s_number m f t)) l ≡ fine l' → Called t l l'
    isn't : (s_kind m f t ≡ 6 → ⊥) → l ≡ l' → Called t l l'

  called_at : (t : ℕ) (s s' : State) → effect L m done f t s ≡ fine s' → Called t s.lists s'.lists
  unfolding effect call called
  called_at t s s' h = go (eqb (s_kind m f t) 6) refl
    where
      s₁ : State
      s₁ = refer_all (s_operands_of m f t) s

      same : s₁.lists ≡ s.lists
      same = refer_all_lists (s_operands_of m f t) s

      callee : Summary
      callee = summary_of done (s_number m f t)

      taken : (l : Lists) × (take_pairs L m f t callee.lists s₁.lists ≡ fine l) × (fine (called callee s₁ l) ≡ fine s')
          → take_pairs L m f t callee.lists s.lists ≡ fine s'.lists
      taken a = subst (λ v. take_pairs L m f t callee.lists v ≡ fine s'.lists) same (a.1 ∙ ap (λ v. fine v.lists) (fine_inj a.2))

      go : (b : Bool) → eqb (s_kind m f t) 6 ≡ b → Called t s.lists s'.lists
      go true w = is (eqb-true _ _ w) (taken (bind_fine _ _ (rw (w, effect) at h)))
      go false w = isn't (eqb-false _ _ w) (sym same ∙ ap (λ v. v.lists) (fine_inj (rw (w, effect) at h)))

  call_from : (t : ℕ) (s s' : State) → effect L m done f t s ≡ fine s' → (z : Pair) → HasS z s' → HasS z s ⊎ Calls m done f t z
  unfolding Calls Takes take_pairs
  call_from t s s' h z k = go (called_at t s s' h)
    where
      callee : Lists
      callee = lists_of done (s_number m f t)

      add : s_kind m f t ≡ 6 → HasS z s ⊎ ((q : Pair) × Mem q (callee.pairs ++ callee.mixed) × Takes m f t q z) → HasS z s ⊎ Calls m done f t z
      add w (inl a) = inl a
      add w (inr a) = inr (w, a.0, append_from a.0 callee.pairs callee.mixed a.1, a.2)

      go : Called t s.lists s'.lists → HasS z s ⊎ Calls m done f t z
      go (is w e) = add w (each_from (take_pair L m f t) Has (λ q x. Takes m f t q x) (λ q l l' r x v. took_from (take_took L m f t q l l' r) x v) (callee.pairs ++ callee.mixed) s.lists s'.lists e z k)
      go (isn't w q) = inl (subst (Has z) (sym q) k)

  call_to : (t : ℕ) (s s' : State) → effect L m done f t s ≡ fine s' → (z : Pair) → HasS z s ⊎ Calls m done f t z → HasS z s'
  unfolding Calls Takes take_pairs
  call_to t s s' h z k = go (called_at t s s' h) k
    where
      callee : Lists
      callee = lists_of done (s_number m f t)

      run : take_pairs L m f t callee s.lists ≡ fine s'.lists → HasS z s ⊎ ((q : Pair) × Mem q (callee.pairs ++ callee.mixed) × Takes m f t q z) → HasS z s'
      run e v = each_to (take_pair L m f t) Has (λ q x. Takes m f t q x) (λ q l l' r x w. took_to (take_took L m f t q l l' r) x w) (callee.pairs ++ callee.mixed) s.lists s'.lists e z v

      go : Called t s.lists s'.lists → HasS z s ⊎ Calls m done f t z → HasS z s'
      go (is w e) (inl a) = run e (inl a)
      go (is w e) (inr a) = run e (inr (a.1, append_to a.1 callee.pairs callee.mixed a.2, a.3))
      go (isn't w q) (inl a) = subst (Has z) q a
      go (isn't w q) (inr a) = absurd (w a.0)

  call_kept : (t : ℕ) (s s' : State) → effect L m done f t s ≡ fine s' → Kept L s.lists → Kept L s'.lists
  unfolding take_pairs
  call_kept t s s' h k = go (called_at t s s' h)
    where
      go : Called t s.lists s'.lists → Kept L s'.lists
      go (is w e) = each_keeps (take_pair L m f t) (Kept L) (λ q l l' r v. took_kept (take_took L m f t q l l' r) v) _ s.lists s'.lists e k
      go (isn't w q) = subst (Kept L) q k

-- a function, given those before it
unfoldable pub Found : List ℕ → List Section → ℕ → Pair → Type 0
Found m done f z = ((e : ℕ) × (e < expressions m f) × Samples m f e z) ⊎ ((t : ℕ) × (t < statements m f) × Calls m done f t z)

-- the states that a function which was not refused went through: its statements' effects one after another, by `visits`
pub record Went (L : Limits) (m : List ℕ) (done : List Section) (f : ℕ) (w : Walked) : Type 0 where
  pub s₁ : State
  pub v : Walked
  pub expressed : each (expression_step L m done f) (range 0 (expressions m f)) (start m f) ≡ fine s₁
  pub visited : each (effect L m done f) (range 0 (statements m f)) (through (initialise m f) (range 0 (initialisers m f)) s₁) ≡ fine v.state
  pub walked : walk_all L m done f (through (initialise m f) (range 0 (initialisers m f)) s₁) ≡ fine v
  pub left : record { state = through (name m f) (range 0 (named m f)) v.state; outcome = v.outcome } ≡ w

pub went : (L : Limits) (m : List ℕ) (done : List Section) (f : ℕ) → SheetFormed L m f → (w : Walked) → function_run L m done f ≡ fine w → Went L m done f w
unfolding function_run
went L m done f formed w h =
    let a = bind_fine _ _ h in
    let b = bind_fine _ _ a.2 in
    record {
      s₁ = a.0;
      v = b.0;
      expressed = a.1;
      visited = visits_all L m done f formed _ b.0 b.1;
      walked = b.1;
      left = fine_inj b.2;
    }

module _ (L : Limits) (m : List ℕ) (done : List Section) (f : ℕ) (formed : SheetFormed L m f) (w : Walked) (ran : function_run L m done f ≡ fine w) where
  r : Went L m done f w
  r = went L m done f formed w ran

  s₂ : State
  s₂ = through (initialise m f) (range 0 (initialisers m f)) r.s₁

  initialised : s₂.lists ≡ r.s₁.lists
  unfolding initialise refer s₂
  initialised = through_keeps (λ v. v.lists) (initialise m f) (λ i v. refl) _ r.s₁

  finished : w.state.lists ≡ r.v.state.lists
  unfolding name
  finished = ap (λ x. x.state.lists) (sym r.left) ∙ through_keeps (λ v. v.lists) (name m f) (λ i v. refl) _ r.v.state

  started : (start m f).lists ≡ no_pairs
  unfolding start
  started = refl

  visited : each (effect L m done f) (range 0 (statements m f)) s₂ ≡ fine r.v.state
  unfolding s₂
  visited = r.visited

  pub function_from : (z : Pair) → Has z w.state.lists → Found m done f z
  unfolding Found
  function_from z k =
      calls (each_from (effect L m done f) HasS (Calls m done f) (call_from L m done f) (range 0 (statements m f)) s₂ r.v.state visited z (subst (Has z) finished k))
    where
      samples : HasS z (start m f) ⊎ ((e : ℕ) × Mem e (range 0 (expressions m f)) × Samples m f e z) → Found m done f z
      samples (inl a) = absurd (none_has z (subst (Has z) started a))
      samples (inr a) = let q = range_from 0 (expressions m f) a.0 a.1 in inl (a.0, omega arith, a.2)

      calls : HasS z s₂ ⊎ ((t : ℕ) × Mem t (range 0 (statements m f)) × Calls m done f t z) → Found m done f z
      calls (inl a) = samples (each_from (expression_step L m done f) HasS (Samples m f) (sample_from L m done f) (range 0 (expressions m f)) (start m f) r.s₁ r.expressed z (subst (Has z) initialised a))
      calls (inr a) = let q = range_from 0 (statements m f) a.0 a.1 in inr (a.0, omega arith, a.2)

  pub function_to : (z : Pair) → Found m done f z → Has z w.state.lists
  unfolding Found
  function_to z k =
      subst (Has z) (sym finished) (each_to (effect L m done f) HasS (Calls m done f) (call_to L m done f) (range 0 (statements m f)) s₂ r.v.state visited z (go k))
    where
      go : Found m done f z → HasS z s₂ ⊎ ((t : ℕ) × Mem t (range 0 (statements m f)) × Calls m done f t z)
      go (inl a) = inl (subst (Has z) (sym initialised) (each_to (expression_step L m done f) HasS (Samples m f) (sample_to L m done f) (range 0 (expressions m f)) (start m f) r.s₁ r.expressed z (inr (a.0, range_to 0 _ a.0 (omega arith) (let h = a.1 in omega arith), a.2))))
      go (inr a) = inr (a.0, range_to 0 _ a.0 (omega arith) (let h = a.1 in omega arith), a.2)

  pub function_kept : Kept L w.state.lists
  function_kept =
      subst (Kept L) (sym finished)
      (each_keeps (effect L m done f) (λ s. Kept L s.lists) (call_kept L m done f) _ s₂ r.v.state visited
      (subst (Kept L) (sym initialised)
      (each_keeps (expression_step L m done f) (λ s. Kept L s.lists) (sample_kept L m done f) _ (start m f) r.s₁ r.expressed
      (subst (Kept L) (sym started) (none_kept L)))))

  -- every sampling's ends trace, and every pair of a callee is replaced
  pub function_traces : (e : ℕ) → e < expressions m f → kind m f e ≡ 13 → (p : Pair) × Samples m f e p
  unfolding Samples
  function_traces e lt k = go (sampling L m done f e a.0 a.1 a.2)
    where
      a : (s : State) × (s' : State) × (expression_step L m done f e s ≡ fine s')
      a = each_at (expression_step L m done f) (range 0 (expressions m f)) (start m f) r.s₁ r.expressed e (range_to 0 _ e (omega arith) (omega arith))

      go : Sampled L m f e a.0.lists a.1.lists → (p : Pair) × Samples m f e p
      go (is q t) = (t.pair, (k, t.by_image, t.by_sampler))
      go (isn't n q) = absurd (n k)

  pub function_replaces : (t : ℕ) (q : Pair) → t < statements m f → s_kind m f t ≡ 6 → Has q (lists_of done (s_number m f t)) → (p : Pair) × Takes m f t q p
  unfolding Takes take_pairs
  function_replaces t q lt k hq = go (called_at L m done f t a.0 a.1 a.2)
    where
      a : (s : State) × (s' : State) × (effect L m done f t s ≡ fine s')
      a = each_at (effect L m done f) (range 0 (statements m f)) s₂ r.v.state visited t (range_to 0 _ t (omega arith) (omega arith))

      callee : Lists
      callee = lists_of done (s_number m f t)

      go : Called L m done f t a.0.lists a.1.lists → (p : Pair) × Takes m f t q p
      go (is v e) =
          let b = each_at (take_pair L m f t) (callee.pairs ++ callee.mixed) a.0.lists a.1.lists e q (append_to q callee.pairs callee.mixed hq) in
          let c = take_took L m f t q b.0 b.1 b.2 in
          (c.pair, (c.by_image, c.by_sampler))
      go (isn't n e) = absurd (n k)
