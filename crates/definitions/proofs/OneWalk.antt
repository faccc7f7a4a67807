-- In a function whose form has passed, the walk is the rule kind by kind: owners hold arms only, other extents hold none, a statement that
-- holds no others is one record long, and only a Loop's body stands right after a Loop.
use Prim.Native.Nat.{ℕ, zero, suc, ◌+◌, ◌-◌, ◌≤◌, ◌<◌}
use native.Mathlib.Omega.{arith}
use mathlib.Core.List.{List}
use mathlib.Core.Path.{◌≡◌, refl, sym, ap, ◌∙◌, subst}
use mathlib.Core.Logic.{◌⊎◌, inl, inr, ⊎_elim}
use mathlib.Core.Bool.{Bool, true, false, cond, ◌&&◌, ◌||◌, not, true≢false}
use lib.Bits.{or_zero_l, or_zero_r}
use lib.Dec.{leb, eqb}
use borrow.Author.Tests.{eqb-true, eqb-false, leb-true, lt-ltb, le-ltb, ltb-false, not-false}
use Rattle.definitions.specs.Bytes.{range}
use Rattle.definitions.specs.Limits.{Limits}
use Rattle.definitions.specs.Module.{statements, s_kind, s_sub, s_end, s_count}
use Rattle.definitions.specs.Codes.{join}
use Rattle.definitions.specs.Checks.{Checked, fine, ◌>>=◌, through}
use Rattle.definitions.specs.Roles.{s_takes}
use Rattle.definitions.specs.Form.{inside, last_around, owner, owner_kind, holds_others, holds_arms, misowned}
use Rattle.definitions.specs.Origin.{Origin, nowhere, from_expression, or_else}
use Rattle.definitions.specs.State.{State, present, s_operands_of, refer_all}
use Rattle.definitions.specs.Summary.{Section}
use Rattle.definitions.specs.Walk.{Disruptor, undisrupted, or_then, Outcome, nothing, joined, exit, own_outcome, Walked, effect, own, inside_start, hands_on, next, onward, walk, walk_all}
use Rattle.definitions.specs.ByKinds.{next_arm, by_kind, statements_onward, arms_onward, walk_by_kinds}
use Rattle.definitions.proofs.Order.{by_bool}
use Rattle.definitions.proofs.Runs.{bind_assoc, bind_same}
use Rattle.definitions.proofs.Formed.{SheetFormed, StatementFormed}
use Rattle.definitions.proofs.Nesting.{loop_holds}
use Rattle.definitions.proofs.Extents.{lt_or_ge, Extent, here, whole_table, walk_done, walk_step}
use Rattle.definitions.proofs.ByKindLaws.{done_statements, done_arms, step_statements, step_arms}

else_nowhere : (o : Origin) → or_else o nowhere ≡ o
unfolding or_else
else_nowhere nowhere = refl
else_nowhere (from_expression e) = refl

or_false : (b : Bool) → (b || false) ≡ b
or_false true = refl
or_false false = refl

joined_left : (o : Outcome) → joined nothing o ≡ o
unfolding joined nothing or_else join
joined_left o = rw (or_zero_l o.requirements)

joined_right : (o : Outcome) → joined o nothing ≡ o
unfolding joined nothing join
joined_right o = rw (else_nowhere o.origin, or_zero_r o.requirements, or_false o.may_return, or_false o.may_kill)

-- j stands directly in the extent that begins at lo: what begins before it there has ended
unfoldable pub Direct : List ℕ → ℕ → ℕ → ℕ → Type 0
Direct m f lo j = (k : ℕ) → lo ≤ k → k < j → s_end m f k ≤ j

pub direct_first : (m : List ℕ) (f lo : ℕ) → Direct m f lo lo
unfolding Direct
direct_first m f lo k l h = absurd (omega arith)

pub direct_next : (m : List ℕ) (f lo at hi : ℕ) → Extent m f at hi → at < hi → Direct m f lo at → Direct m f lo (s_end m f at)
unfolding Direct
direct_next m f lo at hi x lt dir k l h =
    let r = here m f at hi x lt in
    ⊎_elim
    (λ (b : k < at). let z : s_end m f k ≤ at = dir k l b in let y = r.after in omega arith)
    (λ (b : at ≤ k).
    by_bool (eqb k at)
    (λ e. let q : k ≡ at = eqb-true k at e in rw q (omega arith))
    (λ e. let q = eqb-false k at e in r.inner.closed.within k (omega arith) h))
    (lt_or_ge k at)

-- what stands directly in i has i as its owner; what stands directly in the table has none
last_is : (m : List ℕ) (f j i n : ℕ) → i < n → n ≤ j → j < s_end m f i → Direct m f (i + 1) j → last_around m f j n ≡ suc i
unfolding last_around inside Direct
last_is m f j i zero a b c dir = absurd (omega arith)
last_is m f j i (suc n) a b c dir =
    by_bool (eqb n i)
    (λ e. let q : n ≡ i = eqb-true n i e in subst (λ v. last_around m f j (suc v) ≡ suc i) (sym q) (rw (lt-ltb j (s_end m f i) c, last_around)))
    (λ e.
    let q = eqb-false n i e in
    let z : s_end m f n ≤ j = dir n (omega arith) (omega arith) in
    rw (le-ltb j (s_end m f n) z, last_around) (last_is m f j i n (omega arith) (omega arith) c dir))

last_none : (m : List ℕ) (f j n : ℕ) → n ≤ j → Direct m f 0 j → last_around m f j n ≡ 0
unfolding last_around inside Direct
last_none m f j zero b dir = refl
last_none m f j (suc n) b dir =
    let z : s_end m f n ≤ j = dir n (omega arith) (omega arith) in
    rw (le-ltb j (s_end m f n) z, last_around) (last_none m f j n (omega arith) dir)

-- an extent whose direct records are arms, all or none
unfoldable pub Arms : Bool → List ℕ → ℕ → ℕ → ℕ → Type 0
Arms b m f lo hi = (j : ℕ) → lo ≤ j → j < hi → Direct m f lo j → eqb (s_kind m f j) 11 ≡ b

owned_well : (k o : ℕ) → misowned k o ≡ false → eqb k 11 ≡ holds_arms o
unfolding misowned
owned_well k o h = go (eqb k 11) (holds_arms o) h
  where
    go : (a b : Bool) → cond a (not b) b ≡ false → a ≡ b
    go true true e = refl
    go true false e = absurd (true≢false e)
    go false b e = sym e

kind_by_owner : (L : Limits) (m : List ℕ) (f j : ℕ) → StatementFormed L m f j → (k : ℕ) → owner_kind m f j ≡ k → eqb (s_kind m f j) 11 ≡ holds_arms k
kind_by_owner L m f j h k e = owned_well (s_kind m f j) (owner_kind m f j) h.well_owned ∙ ap holds_arms e

module _ (L : Limits) (m : List ℕ) (f : ℕ) (formed : SheetFormed L m f) where
  pub inside_arms : (i : ℕ) → s_end m f i ≤ statements m f → Arms (holds_arms (s_kind m f i)) m f (i + 1) (s_end m f i)
  unfolding Arms owner_kind owner
  inside_arms i b j lo hi dir = kind_by_owner L m f j (formed.each_statement j (omega arith)) (s_kind m f i) (rw (last_is m f j i j (omega arith) (omega arith) hi dir, owner_kind))

  table_arms : Arms false m f 0 (statements m f)
  unfolding Arms owner_kind owner holds_arms
  table_arms j lo hi dir = kind_by_owner L m f j (formed.each_statement j hi) 7 (rw (last_none m f j j (omega arith) dir, owner_kind))

  -- a statement that holds no others is one record long
  leaf_end : (t : ℕ) → t < statements m f → (eqb (s_kind m f t) 7 ≡ false) → holds_arms (s_kind m f t) ≡ false → eqb (s_kind m f t) 11 ≡ false → s_end m f t ≡ t + 1
  unfolding holds_others holds_arms
  leaf_end t h a b c = by_bool (leb 7 (s_kind m f t))
      (λ e.
      let lo = leb-true 7 (s_kind m f t) e in
      let hi = ltb-false 11 (s_kind m f t) (formed.each_statement t h).kind_known in
      let n₇ = eqb-false (s_kind m f t) 7 a in
      let n₁₁ = eqb-false (s_kind m f t) 11 c in
      let n = none_of (eqb (s_kind m f t) 8) (eqb (s_kind m f t) 9) (eqb (s_kind m f t) 10) b in
      let n₈ = eqb-false (s_kind m f t) 8 n.0 in
      let n₉ = eqb-false (s_kind m f t) 9 n.1 in
      let n₁₀ = eqb-false (s_kind m f t) 10 n.2 in
      absurd (omega arith))
      (λ e. eqb-true _ _ (short (leb 7 (s_kind m f t)) (eqb (s_end m f t) (t + 1)) e (formed.each_statement t h).leaf_short))
    where
      none_of : (x y z : Bool) → (x || y || z) ≡ false → (x ≡ false) × (y ≡ false) × (z ≡ false)
      none_of true y z e = absurd (true≢false (any_true y z e))
        where
          any_true : (y z : Bool) → (true || y || z) ≡ false → true ≡ false
          any_true true z h = h
          any_true false z h = h
      none_of false true z e = absurd (true≢false e)
      none_of false false z e = (refl, refl, e)

      short : (x y : Bool) → x ≡ false → (not x && not y) ≡ false → y ≡ true
      short true y h e = absurd (true≢false h)
      short false true h e = refl
      short false false h e = absurd (true≢false e)

  -- only a Loop's body stands right after a Loop: before any other record of an extent something else has ended
  after_no_loop : (lo at : ℕ) → lo < at → at ≤ statements m f → Direct m f lo at → eqb (s_kind m f (at - 1)) 10 ≡ false
  unfolding Direct
  after_no_loop lo at h b dir =
      by_bool (eqb (s_kind m f (at - 1)) 10)
      (λ e.
      let x = loop_holds L m f formed (at - 1) (omega arith) e in
      let y = dir (at - 1) (omega arith) (omega arith) in
      absurd (omega arith))
      (λ e. e)

  -- kinds that take no operands, and what they do by themselves: nothing
  no_operands : (t : ℕ) → t < statements m f → (s_kind m f t ≡ 7) ⊎ (s_kind m f t ≡ 11) → s_count m f t ≡ 0
  unfolding s_takes
  no_operands t h (inl k) = eqb-true (s_count m f t) 0 (rw k at (not-false (s_takes (s_kind m f t) (s_count m f t)) (formed.each_statement t h).count_fits))
  no_operands t h (inr k) = eqb-true (s_count m f t) 0 (rw k at (not-false (s_takes (s_kind m f t) (s_count m f t)) (formed.each_statement t h).count_fits))

  owner_kinds : (k : ℕ) → holds_arms k ≡ true → (k ≡ 8) ⊎ ((k ≡ 9) ⊎ (k ≡ 10))
  unfolding holds_arms
  owner_kinds k e =
      by_bool (eqb k 8) (λ q. inl (eqb-true k 8 q)) (λ q.
      by_bool (eqb k 9) (λ r. inr (inl (eqb-true k 9 r))) (λ r.
      inr (inr (eqb-true k 10 (rw (q, r) at e)))))

  module _ (done : List Section) (at : ℕ) (d : Disruptor) where
    idle_effect : (s : State) → s_count m f at ≡ 0 → eqb (s_kind m f at) 6 ≡ false → effect L m done f at s ≡ fine s
    unfolding effect s_operands_of present range refer_all through
    idle_effect s z k = rw (z, k)

    idle : (s : State) → at < statements m f → (s_kind m f at ≡ 7) ⊎ (s_kind m f at ≡ 11) → own L m done f at d s ≡ fine (record { state = s; outcome = nothing })
    unfolding own own_outcome ◌>>=◌
    idle s h (inl k) = rw (idle_effect s (no_operands at h (inl k)) (ap (λ v. eqb v 6) k), k)
    idle s h (inr k) = rw (idle_effect s (no_operands at h (inr k)) (ap (λ v. eqb v 6) k), k)

    owner_outcome : (s : State) → holds_arms (s_kind m f at) ≡ true → own_outcome m done f at d s ≡ fine nothing
    unfolding own_outcome
    owner_outcome s o =
        ⊎_elim (λ (k : s_kind m f at ≡ 8). rw k) (⊎_elim (λ (k : s_kind m f at ≡ 9). rw k) (λ (k : s_kind m f at ≡ 10). rw k)) (owner_kinds (s_kind m f at) o)

    owning : (s : State) → holds_arms (s_kind m f at) ≡ true → own L m done f at d s ≡ (effect L m done f at s >>= λ s'. fine (record { state = s'; outcome = nothing }))
    unfolding own ◌>>=◌
    owning s o = bind_same (effect L m done f at s) (λ s'. rw (owner_outcome s' o))

    inside_same : (s : State) → (s_kind m f at ≡ 7) ⊎ (s_kind m f at ≡ 11) → inside_start m f at d s ≡ d
    unfolding inside_start
    inside_same s (inl k) = rw k
    inside_same s (inr k) = rw k

    next_plain : (b : Disruptor) (o : Outcome) → eqb (s_kind m f at) 11 ≡ false → next m f at b d o ≡ or_then d (exit o)
    unfolding next
    next_plain b o k = rw k

    next_of_arm : (body : Bool) (b : Disruptor) (o : Outcome) → eqb (s_kind m f at) 11 ≡ true → eqb (s_kind m f (at - 1)) 10 ≡ body
        → next m f at b d o ≡ next_arm m f at body b d o
    unfolding next hands_on next_arm
    next_of_arm body b o k l = rw (k, l) (go (eqb (s_sub m f at) 1 || body))
      where
        go : (t : Bool) → cond (not t) b (or_then d (exit o)) ≡ cond t (or_then d (exit o)) b
        go true = refl
        go false = refl

    block_kind : (s : State) (b : Checked Walked) (a : State → Checked Walked) → eqb (s_kind m f at) 7 ≡ true → by_kind L m done f at d s b a ≡ b
    unfolding by_kind
    block_kind s b a k = rw k

    owner_by_kind : (s : State) (b : Checked Walked) (a : State → Checked Walked) → eqb (s_kind m f at) 7 ≡ false → holds_arms (s_kind m f at) ≡ true
        → by_kind L m done f at d s b a ≡ (effect L m done f at s >>= λ s'. a s')
    unfolding by_kind
    owner_by_kind s b a k o = rw (k, o)

    leaf_kind : (s : State) (b : Checked Walked) (a : State → Checked Walked) → eqb (s_kind m f at) 7 ≡ false → holds_arms (s_kind m f at) ≡ false
        → by_kind L m done f at d s b a ≡ own L m done f at d s
    unfolding by_kind
    leaf_kind s b a k o = rw (k, o)

  module _ (done : List Section) where
    -- the rest after a statement with outcome o, as the walk has it and by kinds
    rest_walk : ℕ → ℕ → Disruptor → Disruptor → Outcome → Outcome → State → Checked Walked
    rest_walk at hi b d out o s = onward L m done f (s_end m f at) hi b (next m f at b d o) (joined out o) s

    rest_kinds : ℕ → ℕ → Disruptor → Outcome → Outcome → State → Checked Walked
    rest_kinds at hi d out o s = statements_onward L m done f (s_end m f at) hi (or_then d (exit o)) (joined out o) s

    rest_arms : Bool → ℕ → ℕ → Disruptor → Disruptor → Outcome → Outcome → State → Checked Walked
    rest_arms body at hi b d out o s = arms_onward L m done f false (s_end m f at) hi b (next_arm m f at body b d o) (joined out o) s

    -- what a statement holds, and the rest
    held_walk : ℕ → Disruptor → State → Checked Walked
    held_walk at d s = walk L m done f (at + 1) (s_end m f at) (inside_start m f at d s) s

    held_statements : ℕ → Disruptor → State → Checked Walked
    held_statements at d s = statements_onward L m done f (at + 1) (s_end m f at) d nothing s

    held_arms : ℕ → Disruptor → State → Checked Walked
    held_arms at d s = arms_onward L m done f (eqb (s_kind m f at) 10) (at + 1) (s_end m f at) (inside_start m f at d s) (inside_start m f at d s) nothing s

    after_own : ℕ → ℕ → Disruptor → Disruptor → Outcome → Walked → Checked Walked
    after_own at hi b d out w₁ = held_walk at d w₁.state >>= λ w₂. rest_walk at hi b d out (joined w₁.outcome w₂.outcome) w₂.state

    walk_here : (at hi : ℕ) (b d : Disruptor) (out : Outcome) (s : State) → Extent m f at hi → at < hi
        → onward L m done f at hi b d out s ≡ (own L m done f at d s >>= after_own at hi b d out)
    unfolding after_own held_walk rest_walk
    walk_here at hi b d out s x lt = walk_step L m done f at hi b d out s x lt

    kinds_here : (at hi : ℕ) (d : Disruptor) (out : Outcome) (s : State) → Extent m f at hi → at < hi
        → statements_onward L m done f at hi d out s ≡ (by_kind L m done f at d s (held_statements at d s) (held_arms at d) >>= λ w. rest_kinds at hi d out w.outcome w.state)
    unfolding held_statements held_arms rest_kinds
    kinds_here at hi d out s x lt = step_statements L m done f at hi d out s x lt

    arms_here : (body : Bool) (at hi : ℕ) (b d : Disruptor) (out : Outcome) (s : State) → Extent m f at hi → at < hi
        → arms_onward L m done f body at hi b d out s ≡ (held_statements at d s >>= λ w. rest_arms body at hi b d out w.outcome w.state)
    unfolding held_statements rest_arms
    arms_here body at hi b d out s x lt = step_arms L m done f body at hi b d out s x lt

    -- what a statement that does nothing by itself comes to: what it holds, and the rest
    holding : (at hi : ℕ) (b d : Disruptor) (out : Outcome) (s : State) (held : Checked Walked) (rest : Outcome → State → Checked Walked)
        → held_walk at d s ≡ held → ((o : Outcome) (s₂ : State) → rest_walk at hi b d out o s₂ ≡ rest o s₂)
        → after_own at hi b d out (record { state = s; outcome = nothing }) ≡ (held >>= λ w. rest w.outcome w.state)
    unfolding after_own
    holding at hi b d out s held rest h k =
        ap (λ v. v >>= λ w₂. rest_walk at hi b d out (joined nothing w₂.outcome) w₂.state) h
        ∙ bind_same held (λ w₂. ap (λ o. rest_walk at hi b d out o w₂.state) (joined_left w₂.outcome) ∙ k w₂.outcome w₂.state)

    -- a Block or an Arm holds what the statements of its inside come to
    held_same : (at : ℕ) (d : Disruptor) (s : State) → (s_kind m f at ≡ 7) ⊎ (s_kind m f at ≡ 11)
        → onward L m done f (at + 1) (s_end m f at) d d nothing s ≡ held_statements at d s → held_walk at d s ≡ held_statements at d s
    unfolding held_walk walk
    held_same at d s k h = ap (λ z. onward L m done f (at + 1) (s_end m f at) z z nothing s) (inside_same done at d s k) ∙ h

    idle_here : (at hi : ℕ) (b d : Disruptor) (out : Outcome) (s : State) → at < statements m f → (s_kind m f at ≡ 7) ⊎ (s_kind m f at ≡ 11)
        → (own L m done f at d s >>= after_own at hi b d out) ≡ after_own at hi b d out (record { state = s; outcome = nothing })
    unfolding ◌>>=◌
    idle_here at hi b d out s h k = ap (λ v. v >>= after_own at hi b d out) (idle done at d s h k)

    -- the three sorts of statement; `agree` says that the rest is the same
    block_here : (at hi : ℕ) (b d : Disruptor) (out : Outcome) (s : State) → at < statements m f → eqb (s_kind m f at) 7 ≡ true
        → ((o : Outcome) (s₂ : State) → rest_walk at hi b d out o s₂ ≡ rest_kinds at hi d out o s₂)
        → onward L m done f (at + 1) (s_end m f at) d d nothing s ≡ held_statements at d s
        → (own L m done f at d s >>= after_own at hi b d out)
        ≡ (by_kind L m done f at d s (held_statements at d s) (held_arms at d) >>= λ w. rest_kinds at hi d out w.outcome w.state)
    block_here at hi b d out s h q agree inner =
        let k = inl (eqb-true (s_kind m f at) 7 q) in
        idle_here at hi b d out s h k
        ∙ (holding at hi b d out s (held_statements at d s) (rest_kinds at hi d out) (held_same at d s k inner) agree
        ∙ ap (λ v. v >>= λ w. rest_kinds at hi d out w.outcome w.state) (sym (block_kind done at d s _ (held_arms at d) q)))

    owner_here : (at hi : ℕ) (b d : Disruptor) (out : Outcome) (s : State) → eqb (s_kind m f at) 7 ≡ false → holds_arms (s_kind m f at) ≡ true
        → ((o : Outcome) (s₂ : State) → rest_walk at hi b d out o s₂ ≡ rest_kinds at hi d out o s₂)
        → ((s' : State) → held_walk at d s' ≡ held_arms at d s')
        → (own L m done f at d s >>= after_own at hi b d out)
        ≡ (by_kind L m done f at d s (held_statements at d s) (held_arms at d) >>= λ w. rest_kinds at hi d out w.outcome w.state)
    unfolding ◌>>=◌
    owner_here at hi b d out s q o agree inner =
        ap (λ v. v >>= after_own at hi b d out) (owning done at d s o)
        ∙ (bind_assoc (effect L m done f at s) (λ s'. fine (record { state = s'; outcome = nothing })) (after_own at hi b d out)
        ∙ (bind_same (effect L m done f at s) (λ s'. holding at hi b d out s' (held_arms at d s') (rest_kinds at hi d out) (inner s') agree)
        ∙ (sym (bind_assoc (effect L m done f at s) (held_arms at d) (λ w. rest_kinds at hi d out w.outcome w.state))
        ∙ ap (λ v. v >>= λ w. rest_kinds at hi d out w.outcome w.state) (sym (owner_by_kind done at d s (held_statements at d s) (held_arms at d) q o)))))

    leaf_here : (at hi : ℕ) (b d : Disruptor) (out : Outcome) (s : State) → eqb (s_kind m f at) 7 ≡ false → holds_arms (s_kind m f at) ≡ false → s_end m f at ≡ at + 1
        → ((o : Outcome) (s₂ : State) → rest_walk at hi b d out o s₂ ≡ rest_kinds at hi d out o s₂)
        → (own L m done f at d s >>= after_own at hi b d out)
        ≡ (by_kind L m done f at d s (held_statements at d s) (held_arms at d) >>= λ w. rest_kinds at hi d out w.outcome w.state)
    unfolding after_own held_walk walk ◌>>=◌
    leaf_here at hi b d out s q o z agree =
        bind_same (own L m done f at d s) (λ w₁.
        ap (λ v. v >>= λ w₂. rest_walk at hi b d out (joined w₁.outcome w₂.outcome) w₂.state)
        (walk_done L m done f (at + 1) (s_end m f at) (inside_start m f at d w₁.state) (inside_start m f at d w₁.state) nothing w₁.state (omega arith))
        ∙ (ap (λ v. rest_walk at hi b d out v w₁.state) (joined_right w₁.outcome) ∙ agree w₁.outcome w₁.state))
        ∙ ap (λ v. v >>= λ w. rest_kinds at hi d out w.outcome w.state) (sym (leaf_kind done at d s (held_statements at d s) (held_arms at d) q o))

    Plain : ℕ → Type 0
    Plain n = (lo at hi : ℕ) (b d : Disruptor) (out : Outcome) (s : State) → Extent m f at hi → lo ≤ at → hi - at ≤ n → Direct m f lo at → Arms false m f lo hi
        → onward L m done f at hi b d out s ≡ statements_onward L m done f at hi d out s

    Armed : ℕ → Type 0
    Armed n = (body : Bool) (lo at hi : ℕ) (b d : Disruptor) (out : Outcome) (s : State) → Extent m f at hi → lo ≤ at → hi - at ≤ n → Direct m f lo at → Arms true m f lo hi
        → eqb (s_kind m f (at - 1)) 10 ≡ body → onward L m done f at hi b d out s ≡ arms_onward L m done f body at hi b d out s

    plain_step : (n : ℕ) → Plain n → Armed n → Plain (suc n)
    unfolding Plain Armed Arms rest_walk rest_kinds held_statements held_walk held_arms walk holds_arms
    plain_step n plain armed lo at hi b d out s x l p dir na =
        ⊎_elim
        (λ (lt : at < hi).
        let h = here m f at hi x lt in
        let in_table : at < statements m f = omega (arith, x.in_table) in
        let k₁₁ : eqb (s_kind m f at) 11 ≡ false = na at l lt dir in
        let inner_arms = inside_arms at h.inner.in_table in
        let agree : (o : Outcome) (s₂ : State) → rest_walk at hi b d out o s₂ ≡ rest_kinds at hi d out o s₂
        = λ o s₂. ap (λ v. onward L m done f (s_end m f at) hi b v (joined out o) s₂) (next_plain done at d b o k₁₁)
        ∙ plain lo (s_end m f at) hi b (or_then d (exit o)) (joined out o) s₂ h.rest (omega arith) (omega arith) (direct_next m f lo at hi x lt dir) na in
        walk_here at hi b d out s x lt
        ∙ (by_bool (eqb (s_kind m f at) 7)
        (λ q.
        let na' : Arms false m f (at + 1) (s_end m f at) = subst (λ v. Arms (holds_arms v) m f (at + 1) (s_end m f at)) (eqb-true (s_kind m f at) 7 q) inner_arms in
        block_here at hi b d out s in_table q agree
        (plain (at + 1) (at + 1) (s_end m f at) d d nothing s h.inner (omega arith) (omega arith) (direct_first m f (at + 1)) na'))
        (λ q.
        by_bool (holds_arms (s_kind m f at))
        (λ o.
        let before : (at + 1) - 1 ≡ at = omega arith in
        let first : eqb (s_kind m f ((at + 1) - 1)) 10 ≡ eqb (s_kind m f at) 10 = ap (λ v. eqb (s_kind m f v) 10) before in
        let ao : Arms true m f (at + 1) (s_end m f at) = subst (λ v. Arms v m f (at + 1) (s_end m f at)) o inner_arms in
        owner_here at hi b d out s q o agree
        (λ s'. armed (eqb (s_kind m f at) 10) (at + 1) (at + 1) (s_end m f at) (inside_start m f at d s') (inside_start m f at d s') nothing s' h.inner (omega arith) (omega arith) (direct_first m f (at + 1)) ao first))
        (λ o. leaf_here at hi b d out s q o (leaf_end at in_table q o k₁₁) agree))
        ∙ sym (kinds_here at hi d out s x lt)))
        (λ (ge : hi ≤ at). walk_done L m done f at hi b d out s ge ∙ sym (done_statements L m done f at hi d out s ge))
        (lt_or_ge at hi)

    arms_step : (n : ℕ) → Plain n → Armed n → Armed (suc n)
    unfolding Plain Armed Arms rest_walk rest_arms held_statements holds_arms
    arms_step n plain armed body lo at hi b d out s x l p dir ao loop =
        ⊎_elim
        (λ (lt : at < hi).
        let h = here m f at hi x lt in
        let in_table : at < statements m f = omega (arith, x.in_table) in
        let q : eqb (s_kind m f at) 11 ≡ true = ao at l lt dir in
        let k = eqb-true (s_kind m f at) 11 q in
        let na' : Arms false m f (at + 1) (s_end m f at) = subst (λ v. Arms (holds_arms v) m f (at + 1) (s_end m f at)) k (inside_arms at h.inner.in_table) in
        walk_here at hi b d out s x lt
        ∙ (idle_here at hi b d out s in_table (inr k)
        ∙ (holding at hi b d out s (held_statements at d s) (rest_arms body at hi b d out)
        (held_same at d s (inr k) (plain (at + 1) (at + 1) (s_end m f at) d d nothing s h.inner (omega arith) (omega arith) (direct_first m f (at + 1)) na'))
        (λ o s₂. ap (λ v. onward L m done f (s_end m f at) hi b v (joined out o) s₂) (next_of_arm done at d body b o q loop)
        ∙ armed false lo (s_end m f at) hi b (next_arm m f at body b d o) (joined out o) s₂ h.rest (omega arith) (omega arith) (direct_next m f lo at hi x lt dir) ao
        (after_no_loop lo (s_end m f at) (omega arith) (omega arith) (direct_next m f lo at hi x lt dir)))
        ∙ sym (arms_here body at hi b d out s x lt))))
        (λ (ge : hi ≤ at). walk_done L m done f at hi b d out s ge ∙ sym (done_arms L m done f body at hi b d out s ge))
        (lt_or_ge at hi)

    both : (n : ℕ) → Plain n × Armed n
    unfolding Plain Armed
    both zero = (
      λ lo at hi b d out s x l p dir na. walk_done L m done f at hi b d out s (omega arith) ∙ sym (done_statements L m done f at hi d out s (omega arith)),
      λ body lo at hi b d out s x l p dir ao loop. walk_done L m done f at hi b d out s (omega arith) ∙ sym (done_arms L m done f body at hi b d out s (omega arith)),
    )
    both (suc n) = let ih = both n in (plain_step n ih.0 ih.1, arms_step n ih.0 ih.1)

    pub one_walk : (s : State) → walk_all L m done f s ≡ walk_by_kinds L m done f s
    unfolding walk_all walk walk_by_kinds Plain
    one_walk s = (both (statements m f)).0 0 0 (statements m f) undisrupted undisrupted nothing s (whole_table L m f formed) (omega arith) (omega arith) (direct_first m f 0) table_arms
