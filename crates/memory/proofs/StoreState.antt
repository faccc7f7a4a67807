-- What each primitive store is to the state: counts, uses, lines, the beginning, the sections.
use Prim.Native.Nat.{ℕ, suc, ◌+◌, ◌*◌, ◌<◌, ◌≤◌}
use native.Mathlib.Omega.{arith}
use native.Mathlib.Numerals.{add-one}
use mathlib.Core.Logic.{◌≢◌}
use mathlib.Core.Bool.{Bool, true, false, cond}
use mathlib.Core.Option.{Option, none, some}
use mathlib.Core.Path.{◌≡◌, refl, ap, ◌∙◌, sym}
use mathlib.Core.List.{List, [], ◌∷◌, ◌++◌}
use borrow.Author.Tests.{ne_eqb, ltb-true, ltb-false}
use lib.Bits.{or_zero_r}
use lib.Dec.{eqb, ltb}
use lib.ListN.{length, get_or, set, length-set, get_or-eq_default}
use lib.Seq.{set_out, set-get_or}
use Rattle.definitions.specs.Bytes.{byte, be16, be32}
use Rattle.definitions.specs.Module.{absent}
use Rattle.definitions.specs.Codes.{QUERY, join}
use Rattle.definitions.specs.Roles.{Use, R, Q, C, W}
use Rattle.definitions.specs.Origin.{origin_from}
use Rattle.definitions.specs.Report.{records, global_from}
use Rattle.definitions.specs.State.{known_of, counted, mark, marked, refer}
use Rattle.definitions.specs.Analyse.{query_unused}
use Rattle.numbers.specs.Stores.{store16, store32}
use Rattle.numbers.proofs.Laws.{length_store16, length_store32, byte_set, byte_set_apart, byte_store16_apart, byte_store32_apart, be16_set_apart, be32_set_apart, be16_store16, be32_store32, be16_store16_apart, be32_store16_apart, be16_store32_apart, be32_store32_apart}
use Rattle.memory.specs.Layout.{uses_at, pairs_at, size}
use Rattle.memory.specs.View.{Shape, known_at, count_at, viewed}
use Rattle.memory.specs.Changes.{assignable_of_line, mask_of, counted_once, with_use, referred, with_line, with_query}
use Rattle.memory.specs.Facts.{ValidShape}
use Rattle.memory.proofs.Records.{Outside, length_records, records_more, records_same, records_set, local_known}
use Rattle.memory.proofs.View.{with_counts, used, one_more, at_assignable, at_count, at_use, state_is, known_kept, counts_kept, uses_kept_before, lists_kept_before}

-- a count that is one more
module _ (h : Shape) (fit : ValidShape h) (w : List ℕ) (l : length w ≡ size) (e : ℕ) (k : e < h.expressions) where
  counted_outside : Outside w (counted_once w e) (9 * e + 3) 4
  unfolding counted_once
  counted_outside j a = byte_store32_apart w (9 * e + 3) (count_at w (9 * e) + 1) j a

  counted_known : (i : ℕ) → known_at (counted_once w e) (0 + 9 * i) ≡ known_at w (0 + 9 * i)
  unfolding known_at counted_once
  counted_known i =
      let v = count_at w (9 * e) + 1 in
      let o : be16 (store32 w (9 * e + 3) v) (0 + 9 * i) ≡ be16 w (0 + 9 * i) = be16_store32_apart w (9 * e + 3) v (0 + 9 * i) (λ p q. omega arith) in
      let r : byte (store32 w (9 * e + 3) v) (0 + 9 * i + 2) ≡ byte w (0 + 9 * i + 2) = byte_store32_apart w (9 * e + 3) v (0 + 9 * i + 2) (λ p q. omega arith) in
      let g : be16 (store32 w (9 * e + 3) v) (0 + 9 * i + 7) ≡ be16 w (0 + 9 * i + 7) = be16_store32_apart w (9 * e + 3) v (0 + 9 * i + 7) (λ p q. omega arith) in
      cc

  counted_here : count_at (counted_once w e) (0 + 9 * e) ≡ suc (get_or (viewed h w).counts e 0)
  unfolding count_at counted_once uses_at size
  counted_here =
      let p : 0 + 9 * e + 3 ≡ 9 * e + 3 = omega arith in
      let b : 9 * e + 3 + 4 ≤ length w = omega (arith, fit.expressions_in) in
      let q : be32 w (9 * e + 3) + 1 ≡ suc (get_or (viewed h w).counts e 0) =
      add-one (be32 w (9 * e + 3)) ∙ ap suc (sym (at_count h w e k)) in
      ap (be32 (store32 w (9 * e + 3) (be32 w (9 * e + 3) + 1))) p ∙ be32_store32 w (9 * e + 3) (be32 w (9 * e + 3) + 1) b ∙ q

  counted_others : (i : ℕ) → i < h.expressions → i ≢ e → count_at (counted_once w e) (0 + 9 * i) ≡ count_at w (0 + 9 * i)
  unfolding count_at counted_once
  counted_others i _ d = be32_store32_apart w (9 * e + 3) (be32 w (9 * e + 3) + 1) (0 + 9 * i + 3) (λ p q. d (omega arith))

  counted_counts : (viewed h (counted_once w e)).counts ≡ counted e (viewed h w).counts
  unfolding viewed counted
  counted_counts =
      records_set count_at 9 w (counted_once w e) 0 h.expressions e (suc (get_or (viewed h w).counts e 0)) (λ _. counted_here) counted_others

  pub viewed_counted : viewed h (counted_once w e) ≡ with_counts (counted e (viewed h w).counts) (viewed h w)
  unfolding viewed pairs_at uses_at
  viewed_counted =
      let b : 9 * e + 3 + 4 ≤ 18432 = omega (arith, fit.expressions_in) in
      state_is (records_same known_at 9 w (counted_once w e) 0 0 h.known (λ i _. counted_known i))
      counted_counts
      (uses_kept_before h fit w (counted_once w e) (9 * e + 3) 4 counted_outside b)
      (lists_kept_before h fit w (counted_once w e) (9 * e + 3) 4 counted_outside (omega arith))

-- a mark is a store where there is such a global, and nothing where there is none
mark_some : (u g : ℕ) (uses : List ℕ) → (g ≡ absent → ⊥) → mark u (global_from g) uses ≡ set uses g (join (get_or uses g 0) u)
unfolding mark global_from
mark_some u g uses h = rw (ne_eqb g absent h)

mark_out : (u g : ℕ) (uses : List ℕ) → length uses ≤ g → mark u (global_from g) uses ≡ uses
unfolding mark global_from
mark_out u g uses h = go (eqb g absent)
  where
    go : (b : Bool) → mark u (cond b none (some g)) uses ≡ uses
    go true = refl
    go false = set_out uses g (join (get_or uses g 0) u) h

-- the same of a query
query_some : (g : ℕ) (uses : List ℕ) → (g ≡ absent → ⊥) → query_unused (global_from g) uses ≡ cond (eqb (get_or uses g QUERY) 0) (set uses g QUERY) uses
unfolding query_unused global_from
query_some g uses h = rw (ne_eqb g absent h)

query_out : (g : ℕ) (uses : List ℕ) → length uses ≤ g → query_unused (global_from g) uses ≡ uses
unfolding query_unused global_from QUERY
query_out g uses h = go (eqb g absent)
  where
    go : (b : Bool) → query_unused (cond b none (some g)) uses ≡ uses
    go true = refl
    go false = rw (get_or-eq_default uses QUERY h)

cond_same : {A : Type 0} (b b' : Bool) (x y : A) → x ≡ y → cond b x y ≡ cond b' x y
cond_same true true x y e = refl
cond_same true false x y e = e
cond_same false true x y e = sym e
cond_same false false x y e = refl

-- which mask each use marks
pub marked_is : (d : Use) (g : Option ℕ) (uses : List ℕ) → marked d g uses ≡ mark (mask_of d) g uses
unfolding marked mask_of mark join
marked_is R g uses = refl
marked_is Q g uses = refl
marked_is W g uses = refl
marked_is C none uses = refl
marked_is C (some g) uses = sym (ap (set uses g) (or_zero_r (get_or uses g 0)) ∙ set-get_or uses g 0)

module _ (h : Shape) (fit : ValidShape h) (w : List ℕ) (l : length w ≡ size) (g : ℕ) where
  length_uses : length (viewed h w).uses ≡ h.globals
  unfolding viewed
  length_uses = length_records byte 1 w uses_at h.globals

  use_here : (v : ℕ) → uses_at + g < pairs_at → byte (set w (uses_at + g) v) (uses_at + 1 * g) ≡ v
  unfolding uses_at pairs_at size
  use_here v k =
      let e : 18432 + 1 * g ≡ 18432 + g = omega arith in
      ap (byte (set w (18432 + g) v)) e ∙ byte_set w (18432 + g) v (omega arith)

  use_others : (v i : ℕ) → i < h.globals → i ≢ g → byte (set w (uses_at + g) v) (uses_at + 1 * i) ≡ byte w (uses_at + 1 * i)
  use_others v i _ d = byte_set_apart w (uses_at + g) v (uses_at + 1 * i) (λ p q. d (omega arith))

  -- a use byte anew
  pub viewed_use : (v : ℕ) → uses_at + g < pairs_at → viewed h (set w (uses_at + g) v) ≡ used (set (viewed h w).uses g v) (viewed h w)
  unfolding viewed
  viewed_use v k =
      let out : Outside w (set w (uses_at + g) v) (uses_at + g) 1 = λ j a. byte_set_apart w (uses_at + g) v j a in
      state_is (known_kept h fit w (set w (uses_at + g) v) (uses_at + g) 1 out (λ p q. omega arith))
      (counts_kept h fit w (set w (uses_at + g) v) (uses_at + g) 1 out (λ p q. omega arith))
      (records_set byte 1 w (set w (uses_at + g) v) uses_at h.globals g v (λ _. use_here v k) (use_others v))
      (lists_kept_before h fit w (set w (uses_at + g) v) (uses_at + g) 1 out (omega arith))

  present_global : uses_at + g < pairs_at → g ≡ absent → ⊥
  unfolding uses_at pairs_at absent
  present_global k e = omega arith

  no_global : pairs_at ≤ uses_at + g → length (viewed h w).uses ≤ g
  no_global k = omega (arith, length_uses, fit.globals_in)

  -- what the store writes where the state has the global's use, and where it has none
  set_same : (v v' : ℕ) → (g < h.globals → v ≡ v') → set (viewed h w).uses g v ≡ set (viewed h w).uses g v'
  set_same v v' f = go (ltb g h.globals) refl
    where
      go : (b : Bool) → ltb g h.globals ≡ b → set (viewed h w).uses g v ≡ set (viewed h w).uses g v'
      go true e = ap (set (viewed h w).uses g) (f (ltb-true _ _ e))
      go false e =
          let k : length (viewed h w).uses ≤ g = omega (arith, length_uses, ltb-false g h.globals e) in
          set_out (viewed h w).uses g v k ∙ sym (set_out (viewed h w).uses g v' k)

  -- a use marked
  pub viewed_used : (u : ℕ) → viewed h (with_use w g u) ≡ used (mark u (global_from g) (viewed h w).uses) (viewed h w)
  unfolding with_use
  viewed_used u = go (ltb (uses_at + g) pairs_at) refl
    where
      go : (b : Bool) → ltb (uses_at + g) pairs_at ≡ b
          → viewed h (cond b (set w (uses_at + g) (join (byte w (uses_at + g)) u)) w) ≡ used (mark u (global_from g) (viewed h w).uses) (viewed h w)
      go true e =
          let k = ltb-true _ _ e in
          viewed_use (join (byte w (uses_at + g)) u) k
          ∙ ap (λ x. used x (viewed h w))
          (set_same (join (byte w (uses_at + g)) u) (join (get_or (viewed h w).uses g 0) u) (λ q. ap (λ x. join x u) (sym (at_use h w g 0 q)))
          ∙ sym (mark_some u g (viewed h w).uses (present_global k)))
      go false e = ap (λ x. used x (viewed h w)) (sym (mark_out u g (viewed h w).uses (no_global (ltb-false _ _ e))))

  -- a named expression's query
  query_stored : uses_at + g < pairs_at → (b : Bool) → viewed h (cond b (set w (uses_at + g) QUERY) w) ≡ used (cond b (set (viewed h w).uses g QUERY) (viewed h w).uses) (viewed h w)
  query_stored k true = viewed_use QUERY k
  query_stored k false = refl

  query_tested : cond (eqb (byte w (uses_at + g)) 0) (set (viewed h w).uses g QUERY) (viewed h w).uses
      ≡ cond (eqb (get_or (viewed h w).uses g QUERY) 0) (set (viewed h w).uses g QUERY) (viewed h w).uses
  query_tested = go (ltb g h.globals) refl
    where
      go : (b : Bool) → ltb g h.globals ≡ b → cond (eqb (byte w (uses_at + g)) 0) (set (viewed h w).uses g QUERY) (viewed h w).uses
          ≡ cond (eqb (get_or (viewed h w).uses g QUERY) 0) (set (viewed h w).uses g QUERY) (viewed h w).uses
      go true e = ap (λ x. cond (eqb x 0) (set (viewed h w).uses g QUERY) (viewed h w).uses) (sym (at_use h w g QUERY (ltb-true g h.globals e)))
      go false e =
          let k : length (viewed h w).uses ≤ g = omega (arith, length_uses, ltb-false g h.globals e) in
          cond_same (eqb (byte w (uses_at + g)) 0) (eqb (get_or (viewed h w).uses g QUERY) 0) (set (viewed h w).uses g QUERY) (viewed h w).uses
          (set_out (viewed h w).uses g QUERY k)

  pub viewed_queried : viewed h (with_query w g) ≡ used (query_unused (global_from g) (viewed h w).uses) (viewed h w)
  unfolding with_query
  viewed_queried = go (ltb (uses_at + g) pairs_at) refl
    where
      go : (b : Bool) → ltb (uses_at + g) pairs_at ≡ b
          → viewed h (cond b (cond (eqb (byte w (uses_at + g)) 0) (set w (uses_at + g) QUERY) w) w) ≡ used (query_unused (global_from g) (viewed h w).uses) (viewed h w)
      go true e =
          let k = ltb-true _ _ e in
          query_stored k (eqb (byte w (uses_at + g)) 0)
          ∙ ap (λ x. used x (viewed h w)) (query_tested ∙ sym (query_some g (viewed h w).uses (present_global k)))
      go false e = ap (λ x. used x (viewed h w)) (sym (query_out g (viewed h w).uses (no_global (ltb-false _ _ e))))

-- a reference: the count goes up, and the mark that the use wants is made
pub length_counted : (w : List ℕ) (e : ℕ) → length (counted_once w e) ≡ length w
unfolding counted_once
length_counted w e = length_store32 w (9 * e + 3) (count_at w (9 * e) + 1)

pub viewed_referred : (h : Shape) → ValidShape h → (w : List ℕ) → length w ≡ size → (e : ℕ) → e < h.known → (d : Use)
    → viewed h (referred (mask_of d) w e) ≡ refer (record { does = d; target = e }) (viewed h w)
unfolding referred refer assignable_of_line
viewed_referred h fit w l e k d =
    let w₁ = counted_once w e in
    let c : viewed h w₁ ≡ with_counts (counted e (viewed h w).counts) (viewed h w) = viewed_counted h fit w l e (omega (arith, fit.known_in)) in
    let a : global_from (be16 w (9 * e + 7)) ≡ (known_of (viewed h w) e).assignable = sym (at_assignable h w e k) in
    viewed_used h fit w₁ (length_counted w e ∙ l) (be16 w (9 * e + 7)) (mask_of d)
    ∙ ap (λ s. used (mark (mask_of d) (global_from (be16 w (9 * e + 7))) s.uses) s) c
    ∙ ap (λ g. used (mark (mask_of d) g (viewed h w).uses) (with_counts (counted e (viewed h w).counts) (viewed h w))) a
    ∙ ap (λ u. used u (with_counts (counted e (viewed h w).counts) (viewed h w))) (sym (marked_is d (known_of (viewed h w) e).assignable (viewed h w).uses))

-- a reference that carries marks nothing
pub viewed_carried : (h : Shape) → ValidShape h → (w : List ℕ) → length w ≡ size → (e : ℕ) → e < h.known
    → viewed h (counted_once w e) ≡ refer (record { does = C; target = e }) (viewed h w)
unfolding refer marked
viewed_carried h fit w l e k = viewed_counted h fit w l e (omega (arith, fit.known_in))

-- the query of a named expression
pub viewed_named : (h : Shape) → ValidShape h → (w : List ℕ) → length w ≡ size → (e : ℕ) → e < h.known
    → viewed h (with_query w (be16 w (9 * e + 7))) ≡ used (query_unused (known_of (viewed h w) e).assignable (viewed h w).uses) (viewed h w)
unfolding assignable_of_line
viewed_named h fit w l e k =
    viewed_queried h fit w l (be16 w (9 * e + 7)) ∙ ap (λ g. used (query_unused g (viewed h w).uses) (viewed h w)) (sym (at_assignable h w e k))

-- what a line says once it is written
written_origin : (w : List ℕ) (e o r a : ℕ) → 9 * e + 9 ≤ length w → be16 (with_line w e o r a) (9 * e) ≡ o
unfolding with_line
written_origin w e o r a b =
    be16_store16_apart (set (store16 w (9 * e) o) (9 * e + 2) r) (9 * e + 7) a (9 * e) (λ p q. omega arith)
    ∙ be16_set_apart (store16 w (9 * e) o) (9 * e + 2) r (9 * e) (λ p q. omega arith)
    ∙ be16_store16 w (9 * e) o (omega arith)

written_requirements : (w : List ℕ) (e o r a : ℕ) → 9 * e + 9 ≤ length w → byte (with_line w e o r a) (9 * e + 2) ≡ r
unfolding with_line
written_requirements w e o r a b =
    byte_store16_apart (set (store16 w (9 * e) o) (9 * e + 2) r) (9 * e + 7) a (9 * e + 2) (λ p q. omega arith)
    ∙ byte_set (store16 w (9 * e) o) (9 * e + 2) r (omega (arith, length_store16 w (9 * e) o))

written_assignable : (w : List ℕ) (e o r a : ℕ) → 9 * e + 9 ≤ length w → be16 (with_line w e o r a) (9 * e + 7) ≡ a
unfolding with_line
written_assignable w e o r a b =
    be16_store16 (set (store16 w (9 * e) o) (9 * e + 2) r) (9 * e + 7) a
    (omega (arith, length-set (store16 w (9 * e) o) (9 * e + 2) r, length_store16 w (9 * e) o))

pub line_written : (w : List ℕ) (e o r a : ℕ) → 9 * e + 9 ≤ length w
    → known_at (with_line w e o r a) (9 * e) ≡ record { origin = origin_from o; requirements = r; assignable = global_from a }
unfolding known_at
line_written w e o r a b = rw (written_origin w e o r a b, written_requirements w e o r a b, written_assignable w e o r a b)

-- a line more is known
module _ (h : Shape) (fit : ValidShape h) (w : List ℕ) (l : length w ≡ size) (k : h.known < h.expressions) (o r a : ℕ) where
  line_outside : Outside w (with_line w h.known o r a) (9 * h.known) 9
  unfolding with_line
  line_outside j p =
      let e = 9 * h.known in
      byte_store16_apart (set (store16 w e o) (e + 2) r) (e + 7) a j (λ x y. p (omega arith) (omega arith))
      ∙ byte_set_apart (store16 w e o) (e + 2) r j (λ x y. p (omega arith) (omega arith))
      ∙ byte_store16_apart w e o j (λ x y. p (omega arith) (omega arith))

  line_count : (i : ℕ) → count_at (with_line w h.known o r a) (0 + 9 * i) ≡ count_at w (0 + 9 * i)
  unfolding with_line count_at
  line_count i =
      let e = 9 * h.known in
      be32_store16_apart (set (store16 w e o) (e + 2) r) (e + 7) a (0 + 9 * i + 3) (λ x y. omega arith)
      ∙ be32_set_apart (store16 w e o) (e + 2) r (0 + 9 * i + 3) (λ x y. omega arith)
      ∙ be32_store16_apart w e o (0 + 9 * i + 3) (λ x y. omega arith)

  line_here : known_at (with_line w h.known o r a) (0 + 9 * h.known) ≡ record { origin = origin_from o; requirements = r; assignable = global_from a }
  unfolding uses_at size
  line_here =
      let z : 0 + 9 * h.known ≡ 9 * h.known = omega arith in
      ap (known_at (with_line w h.known o r a)) z ∙ line_written w h.known o r a (omega (arith, fit.expressions_in))

  line_before : (i : ℕ) → i < h.known → known_at (with_line w h.known o r a) (0 + 9 * i) ≡ known_at w (0 + 9 * i)
  line_before i q = local_known w (with_line w h.known o r a) (0 + 9 * i) (λ j p. line_outside (0 + 9 * i + j) (λ x y. omega arith))

  pub viewed_line : viewed (one_more h) (with_line w h.known o r a) ≡ record {
    known = (viewed h w).known ++ (record { origin = origin_from o; requirements = r; assignable = global_from a } ∷ []);
    counts = (viewed h w).counts;
    uses = (viewed h w).uses;
    lists = (viewed h w).lists;
  }
  unfolding viewed uses_at pairs_at
  viewed_line =
      let w' = with_line w h.known o r a in
      let b : 9 * h.known + 9 ≤ 18432 = omega (arith, fit.expressions_in) in
      let before : records known_at 9 w' 0 h.known ≡ records known_at 9 w 0 h.known = records_same known_at 9 w w' 0 0 h.known line_before in
      let here = line_here in
      state_is (records_more known_at 9 w' 0 h.known ∙ rw (before, here))
      (records_same count_at 9 w w' 0 0 h.expressions (λ i _. line_count i))
      (uses_kept_before h fit w w' (9 * h.known) 9 line_outside b)
      (lists_kept_before h fit w w' (9 * h.known) 9 line_outside (omega arith))
