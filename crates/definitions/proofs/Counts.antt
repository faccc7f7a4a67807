-- 01, 6.5 of the counts that the rules keep: the sum of a function's reference counts.
use Prim.Native.Nat.{ℕ, zero, suc, ◌+◌, ◌<◌}
use native.Mathlib.Omega.{arith}
use native.Mathlib.Nat.{le_of_suc-le-suc, not-suc-le-zero}
use mathlib.Core.List.{List, [], ◌∷◌, map}
use mathlib.Core.Path.{◌≡◌, refl, sym, ap, ◌∙◌, subst}
use mathlib.Core.Logic.{◌⊎◌, inl, inr}
use mathlib.Core.Bool.{Bool, true, false}
use lib.Dec.{eqb}
use lib.ListN.{length, get_or, set, replicate, length-set, length-replicate}
use borrow.Author.Tests.{eqb-false}
use Rattle.definitions.specs.Bytes.{range}
use Rattle.definitions.specs.Limits.{Limits}
use Rattle.definitions.specs.Module.{absent, functions, expressions, statements, initialisers, named, operand, operand_count, s_kind, s_count}
use Rattle.definitions.specs.Checks.{Checked, fine, each, through}
use Rattle.definitions.specs.State.{State, start, Operand, present, operand_at, operands_of, s_operand_at, s_operands_of, counted, refer, refer_all}
use Rattle.definitions.specs.Summary.{Section, no_section}
use Rattle.definitions.specs.Expressions.{with_expression, expression_step}
use Rattle.definitions.specs.Walk.{Walked, called, call, effect}
use Rattle.definitions.specs.Analyse.{initialise, name, function_run, entry_of, section_of, accepted}
use Rattle.definitions.specs.Chains.{Mem}
use Rattle.definitions.specs.Counting.{sum_over, counts_of, references}
use Rattle.definitions.proofs.Fold.{bind_fine, fine_inj}
use Rattle.definitions.proofs.Ranges.{range_from}
use Rattle.definitions.proofs.Runs.{range_length}
use Rattle.definitions.proofs.Formed.{SheetFormed, operand_in, s_operand_in}
use Rattle.definitions.proofs.Modules.{by_functions, accepted_formed}
use Rattle.definitions.proofs.Step.{went}

sum : List ℕ → ℕ
sum l = sum_over (λ x. x) l

sum_bump : (l : List ℕ) (x : ℕ) → x < length l → sum (set l x (suc (get_or l x 0))) ≡ suc (sum l)
unfolding sum sum_over
sum_bump [] x h = absurd (not-suc-le-zero h)
sum_bump (y ∷ l) zero h = omega arith
sum_bump (y ∷ l) (suc x) h = let ih = sum_bump l x (le_of_suc-le-suc h) in omega arith

sum_zeros : (n : ℕ) → sum (replicate n 0) ≡ 0
unfolding sum sum_over
sum_zeros zero = refl
sum_zeros (suc n) = let ih = sum_zeros n in omega arith

-- the counts have one place for each expression, and their sum is k
record Summed (m : List ℕ) (f k : ℕ) (s : State) : Type 0 where
  places : length s.counts ≡ expressions m f
  total : sum s.counts ≡ k

-- operands that name an expression
In : ℕ → List Operand → Type 0
In n os = (o : Operand) → Mem o os → o.target < n

refer_summed : (m : List ℕ) (f k : ℕ) (o : Operand) (s : State) → o.target < expressions m f → Summed m f k s → Summed m f (suc k) (refer o s)
unfolding refer counted
refer_summed m f k o s h i =
    let p = i.places in
    let q = i.total in
    record { places = length-set s.counts o.target _ ∙ p; total = sum_bump s.counts o.target (omega arith) ∙ ap suc q }

refer_all_summed : (m : List ℕ) (f k : ℕ) (os : List Operand) (s : State) → In (expressions m f) os → Summed m f k s → Summed m f (k + length os) (refer_all os s)
unfolding refer_all through In
refer_all_summed m f k [] s h i = subst (λ v. Summed m f v s) (omega arith) i
refer_all_summed m f k (o ∷ os) s h i =
    subst (λ v. Summed m f v (refer_all os (refer o s))) (omega arith)
    (refer_all_summed m f (suc k) os (refer o s) (λ p q. h p (inr q)) (refer_summed m f k o s (h o (inl refl)) i))

-- a run in which the step at i adds w i
each_adds : {S : Type 0} (step : ℕ → S → Checked S) (P : ℕ → S → Type 0) (w : ℕ → ℕ) (l : List ℕ)
    → ((i : ℕ) → Mem i l → (k : ℕ) (s s' : S) → step i s ≡ fine s' → P k s → P (k + w i) s')
    → (k : ℕ) (s s' : S) → each step l s ≡ fine s' → P k s → P (k + sum_over w l) s'
unfolding each sum_over
each_adds step P w [] law k s s' e h = subst (λ v. P v s') (omega arith) (subst (P k) (fine_inj e) h)
each_adds step P w (i ∷ l) law k s s' e h =
    let t = bind_fine (step i s) (λ u. each step l u) e in
    subst (λ v. P v s') (omega arith)
    (each_adds step P w l (λ j q. law j (inr q)) (k + w i) t.0 s' t.2 (law i (inl refl) k s t.0 t.1 h))

-- the present operands of a list of places
present_in : (n : ℕ) (op : ℕ → Operand) (l : List ℕ) → ((j : ℕ) → Mem j l → ((op j).target ≡ absent) ⊎ ((op j).target < n)) → In n (present op l)
unfolding In present
present_in n op [] h o q = absurd q
present_in n op (j ∷ l) h o q = go (eqb (op j).target absent) refl (λ r. present_in n op l (λ i r. h i (inr r)) o r)
  where
    there : eqb (op j).target absent ≡ false → ((op j).target ≡ absent) ⊎ ((op j).target < n) → (op j).target < n
    there w (inl a) = absurd (eqb-false _ _ w a)
    there w (inr a) = a

    among : eqb (op j).target absent ≡ false → (Mem o (present op l) → o.target < n) → (o ≡ op j) ⊎ Mem o (present op l) → o.target < n
    among w ih (inl e) = subst (λ v. v.target < n) (sym e) (there w (h j (inl refl)))
    among w ih (inr r) = ih r

    go : (b : Bool) → eqb (op j).target absent ≡ b → (Mem o (present op l) → o.target < n) → o.target < n
    go true w ih = ih (rw (w, present) at q)
    go false w ih = among w ih (rw (w, present) at q)

module _ (L : Limits) (m : List ℕ) (f : ℕ) (formed : SheetFormed L m f) where
  expression_in : (e : ℕ) → e < expressions m f → In (expressions m f) (operands_of m f e)
  unfolding operands_of operand_at
  expression_in e h = present_in (expressions m f) (operand_at m f e) (range 0 (operand_count m f e)) law
    where
      law : (j : ℕ) → Mem j (range 0 (operand_count m f e)) → (operand m f e j ≡ absent) ⊎ (operand m f e j < expressions m f)
      law j q = let x = range_from 0 _ j q in go (operand_in m f e (formed.each_expression e h) j (omega arith))
        where
          go : (operand m f e j ≡ absent) ⊎ (operand m f e j < e) → (operand m f e j ≡ absent) ⊎ (operand m f e j < expressions m f)
          go (inl a) = inl a
          go (inr a) = inr (omega arith)

  statement_in : (t : ℕ) → t < statements m f → In (expressions m f) (s_operands_of m f t)
  unfolding s_operands_of s_operand_at
  statement_in t h = present_in (expressions m f) (s_operand_at m f t) (range 0 (s_count m f t))
      (λ j q. let x = range_from 0 _ j q in inr (s_operand_in L m f t (formed.each_statement t h) j (omega arith)))

  module _ (done : List Section) where
    expression_adds : (e : ℕ) → e < expressions m f → (k : ℕ) (s s' : State) → expression_step L m done f e s ≡ fine s' → Summed m f k s → Summed m f (k + length (operands_of m f e)) s'
    unfolding expression_step with_expression
    expression_adds e h k s s' q i =
        let a = bind_fine _ _ q in
        let b = bind_fine _ _ a.2 in
        let r = refer_all_summed m f k (operands_of m f e) s (expression_in e h) i in
        subst (Summed m f (k + length (operands_of m f e))) (fine_inj b.2) (record { places = r.places; total = r.total })

    statement_adds : (t : ℕ) → t < statements m f → (k : ℕ) (s s' : State) → effect L m done f t s ≡ fine s' → Summed m f k s → Summed m f (k + length (s_operands_of m f t)) s'
    unfolding effect call called
    statement_adds t h k s s' q i = go (eqb (s_kind m f t) 6) refl
      where
        K : ℕ
        K = k + length (s_operands_of m f t)

        r : Summed m f K (refer_all (s_operands_of m f t) s)
        r = refer_all_summed m f k (s_operands_of m f t) s (statement_in t h) i

        go : (b : Bool) → eqb (s_kind m f t) 6 ≡ b → Summed m f K s'
        go true w =
            let a = bind_fine _ _ (rw (w, effect) at q) in
            subst (Summed m f K) (fine_inj a.2) (record { places = r.places; total = r.total })
        go false w = subst (Summed m f K) (fine_inj (rw (w, effect) at q)) r

  initialisers_add : (l : List ℕ) → ((i : ℕ) → Mem i l → i < initialisers m f) → (k : ℕ) (s : State) → Summed m f k s → Summed m f (k + length l) (through (initialise m f) l s)
  unfolding through initialise
  initialisers_add [] h k s i = subst (λ v. Summed m f v s) (omega arith) i
  initialisers_add (j ∷ l) h k s i =
      subst (λ v. Summed m f v (through (initialise m f) l (initialise m f j s))) (omega arith)
      (initialisers_add l (λ x q. h x (inr q)) (suc k) _ (refer_summed m f k _ s (formed.each_initialiser j (h j (inl refl))) i))

  named_same : (l : List ℕ) (k : ℕ) (s : State) → Summed m f k s → Summed m f k (through (name m f) l s)
  unfolding through name
  named_same [] k s i = i
  named_same (j ∷ l) k s i = named_same l k _ (record { places = i.places; total = i.total })

  function_sum : (done : List Section) (w : Walked) → function_run L m done f ≡ fine w → Summed m f (references m f) w.state
  unfolding start references
  function_sum done w q =
      let r = went L m done f formed w q in
      let i₀ : Summed m f 0 (start m f) = record { places = length-replicate (expressions m f) 0; total = sum_zeros (expressions m f) } in
      let i₁ = each_adds (expression_step L m done f) (Summed m f) (λ e. length (operands_of m f e)) (range 0 (expressions m f))
      (λ e w. expression_adds done e (let x = range_from 0 _ e w in omega arith)) 0 (start m f) r.s₁ r.expressed i₀ in
      let i₂ = initialisers_add (range 0 (initialisers m f)) (λ i w. let x = range_from 0 _ i w in omega arith) _ r.s₁ i₁ in
      let i₃ = each_adds (effect L m done f) (Summed m f) (λ t. length (s_operands_of m f t)) (range 0 (statements m f))
      (λ t w. statement_adds done t (let x = range_from 0 _ t w in omega arith)) _ _ r.v.state r.visited i₂ in
      let i₄ = named_same (range 0 (named m f)) _ r.v.state i₃ in
      let l = range_length 0 (initialisers m f) in
      subst (λ v. Summed m f (references m f) v.state) r.left (record { places = i₄.places; total = i₄.total ∙ omega arith })

-- the counts as the section lists them
sum_map : {A B : Type 0} (w : B → ℕ) (h : A → B) (l : List A) → sum_over w (map h l) ≡ sum_over (λ x. w (h x)) l
unfolding sum_over
sum_map w h [] = refl
sum_map w h (x ∷ l) = ap (λ n. w (h x) + n) (sum_map w h l)

sum_listed : (c : List ℕ) (i : ℕ) (g : ℕ → ℕ) → ((j : ℕ) → g (i + j) ≡ get_or c j 0) → sum_over g (range i (length c)) ≡ sum c
unfolding sum sum_over range
sum_listed [] i g h = refl
sum_listed (x ∷ c) i g h =
    let z : i + 0 ≡ i = omega arith in
    let e : g i ≡ x = ap g (sym z) ∙ h 0 in
    let ih = sum_listed c (suc i) g (λ j. let q : suc i + j ≡ i + suc j = omega arith in ap g q ∙ h (suc j)) in
    omega arith

section_sum : (m : List ℕ) (f k : ℕ) (w : Walked) → Summed m f k w.state → counts_of (section_of m f w).entries ≡ k
unfolding counts_of section_of entry_of sum
section_sum m f k w i =
    let c = w.state.counts in
    sum_map (λ e. e.count) (entry_of w.state) (range 0 (expressions m f))
    ∙ (ap (λ n. sum_over (λ e. get_or c e 0) (range 0 n)) (sym i.places)
    ∙ (sum_listed c 0 (λ e. get_or c e 0) (λ j. let z : 0 + j ≡ j = omega arith in ap (λ v. get_or c v 0) z) ∙ i.total))

pub counts_add_up : (L : Limits) (m : List ℕ) (d : List Section) → accepted L m ≡ fine d → (f : ℕ) → f < functions m
    → counts_of (get_or d f no_section).entries ≡ references m f
counts_add_up L m d e f h =
    let formed = accepted_formed L m d e in
    by_functions L m (λ g y. counts_of y.entries ≡ references m g)
    (λ g done w lt len ran below. section_sum m g (references m g) w (function_sum L m g (formed.each_sheet g lt) done w ran)) d e f h
