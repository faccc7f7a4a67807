-- What each primitive store is to the state that stands in the working memory (specs/View).
use Prim.Native.Nat.{ℕ, ◌+◌, ◌*◌, ◌-◌, ◌<◌, ◌≤◌}
use native.Mathlib.Omega.{arith}
use mathlib.Core.Path.{◌≡◌, refl, ap, ◌∙◌, sym}
use mathlib.Core.List.{List}
use lib.ListN.{length, get_or, drop, length-drop}
use lib.Seq.{ext_get_or, get_or-drop}
use Rattle.definitions.specs.Bytes.{byte}
use Rattle.definitions.specs.Pairs.{Lists}
use Rattle.definitions.specs.Report.{r_mixed}
use Rattle.definitions.specs.State.{State, Known, unknown, known_of}
use Rattle.numbers.proofs.Laws.{Apart}
use Rattle.memory.specs.Layout.{uses_at, pairs_at, mixed_at, sections_at, size}
use Rattle.memory.specs.View.{Shape, known_at, count_at, viewed}
use Rattle.memory.specs.Changes.{origin_of_line, requirements_of_line, assignable_of_line, table}
use Rattle.memory.specs.Facts.{ValidShape, ValidLine}
use Rattle.memory.proofs.Records.{Outside, records_at, records_apart, local_byte, local_known, local_count, local_mixed}

-- states with one part anew
abbrev pub with_counts : List ℕ → State → State
with_counts c s = record { known = s.known; counts = c; uses = s.uses; lists = s.lists }

abbrev pub used : List ℕ → State → State
used u s = record { known = s.known; counts = s.counts; uses = u; lists = s.lists }

abbrev pub listed : Lists → State → State
listed l s = record { known = s.known; counts = s.counts; uses = s.uses; lists = l }

-- a shape with one expression more known; with other lists
abbrev pub one_more : Shape → Shape
one_more h = record { known = h.known + 1; expressions = h.expressions; globals = h.globals; pairs = h.pairs; mixed = h.mixed }

abbrev pub listing : Shape → ℕ → ℕ → Shape
listing h p x = record { known = h.known; expressions = h.expressions; globals = h.globals; pairs = p; mixed = x }

-- a line that there is, and what is read in it
pub has_line : (h : Shape) (w : List ℕ) (e : ℕ) → ValidShape h → length w ≡ size → e < h.expressions → ValidLine w e
unfolding uses_at size
has_line h w e fit l k = record { long = l; here = omega (arith, fit.expressions_in) }

pub at_known : (h : Shape) (w : List ℕ) (e : ℕ) → e < h.known → known_of (viewed h w) e ≡ known_at w (9 * e)
unfolding known_of viewed
at_known h w e k =
    let p : 0 + 9 * e ≡ 9 * e = omega arith in
    records_at known_at 9 w 0 h.known e unknown k ∙ ap (known_at w) p

pub at_origin : (h : Shape) (w : List ℕ) (e : ℕ) → e < h.known → (known_of (viewed h w) e).origin ≡ origin_of_line w e
unfolding known_at origin_of_line
at_origin h w e k = ap (λ (x : Known). x.origin) (at_known h w e k)

pub at_requirements : (h : Shape) (w : List ℕ) (e : ℕ) → e < h.known → (known_of (viewed h w) e).requirements ≡ requirements_of_line w e
unfolding known_at requirements_of_line
at_requirements h w e k = ap (λ (x : Known). x.requirements) (at_known h w e k)

pub at_assignable : (h : Shape) (w : List ℕ) (e : ℕ) → e < h.known → (known_of (viewed h w) e).assignable ≡ assignable_of_line w e
unfolding known_at assignable_of_line
at_assignable h w e k = ap (λ (x : Known). x.assignable) (at_known h w e k)

pub at_count : (h : Shape) (w : List ℕ) (e : ℕ) → e < h.expressions → get_or (viewed h w).counts e 0 ≡ count_at w (9 * e)
unfolding viewed
at_count h w e k =
    let p : 0 + 9 * e ≡ 9 * e = omega arith in
    records_at count_at 9 w 0 h.expressions e 0 k ∙ ap (count_at w) p

pub at_use : (h : Shape) (w : List ℕ) (g d : ℕ) → g < h.globals → get_or (viewed h w).uses g d ≡ byte w (uses_at + g)
unfolding viewed
at_use h w g d k =
    let p : uses_at + 1 * g ≡ uses_at + g = omega arith in
    records_at byte 1 w uses_at h.globals g d k ∙ ap (byte w) p

-- a state is its four parts
pub state_is : {k k' : List Known} {c c' u u' : List ℕ} {l l' : Lists} → k ≡ k' → c ≡ c' → u ≡ u' → l ≡ l'
    → ◌≡◌ {A = State} (record { known = k; counts = c; uses = u; lists = l }) (record { known = k'; counts = c'; uses = u'; lists = l' })
state_is a b c d = cc

-- bytes that change elsewhere leave a part as it is
module _ (h : Shape) (fit : ValidShape h) (w w' : List ℕ) (a n : ℕ) (out : Outside w w' a n) where
  pub known_kept : Apart a n 0 uses_at → (viewed h w').known ≡ (viewed h w).known
  unfolding viewed
  known_kept p =
      records_apart known_at 9 local_known w w' a n out 0 h.known
      (λ x y. p (omega (arith, fit.known_in, fit.expressions_in)) y)

  pub counts_kept : Apart a n 0 uses_at → (viewed h w').counts ≡ (viewed h w).counts
  unfolding viewed
  counts_kept p =
      records_apart count_at 9 local_count w w' a n out 0 h.expressions
      (λ x y. p (omega (arith, fit.expressions_in)) y)

  pub uses_kept : Apart a n uses_at h.globals → (viewed h w').uses ≡ (viewed h w).uses
  unfolding viewed
  uses_kept p =
      records_apart byte 1 local_byte w w' a n out uses_at h.globals
      (λ x y. p (omega arith) y)

  pub lists_kept : Apart a n pairs_at (6 * h.pairs) → Apart a n mixed_at (6 * h.mixed) → (viewed h w').lists ≡ (viewed h w).lists
  unfolding viewed
  lists_kept p q =
      let x = records_apart r_mixed 6 local_mixed w w' a n out pairs_at h.pairs p in
      let y = records_apart r_mixed 6 local_mixed w w' a n out mixed_at h.mixed q in
      cc

  -- before the uses
  pub uses_kept_before : a + n ≤ uses_at → (viewed h w').uses ≡ (viewed h w).uses
  uses_kept_before k = uses_kept (λ x y. omega arith)

  pub lists_kept_before : a + n ≤ pairs_at → (viewed h w').lists ≡ (viewed h w).lists
  unfolding pairs_at mixed_at
  lists_kept_before k = lists_kept (λ x y. omega arith) (λ x y. omega arith)

-- stores behind the uses and before the sections change the lists alone: for the crate of the pair lists
pub only_lists : (h : Shape) → ValidShape h → (w w' : List ℕ) (a n p x : ℕ) → Outside w w' a n → pairs_at ≤ a → a + n ≤ sections_at
    → viewed (listing h p x) w' ≡ listed (viewed (listing h p x) w').lists (viewed h w)
unfolding viewed uses_at pairs_at
only_lists h fit w w' a n p x out i j =
    let k = known_kept h fit w w' a n out (λ y z. omega arith) in
    let c = counts_kept h fit w w' a n out (λ y z. omega arith) in
    let u = uses_kept h fit w w' a n out (λ y z. omega (arith, fit.globals_in)) in
    state_is k c u refl

-- and leave the table of sections as it is, as does all that is stored before it
pub table_kept : (w w' : List ℕ) (a n : ℕ) → Outside w w' a n → length w' ≡ length w → a + n ≤ sections_at → table w' ≡ table w
unfolding table byte
table_kept w w' a n out l k =
    ext_get_or 0 (drop sections_at w') (drop sections_at w) (simp length-drop (ap (λ x. x - sections_at) l))
    (λ i _. get_or-drop sections_at w' i 0 ∙ out (sections_at + i) (λ y z. omega arith) ∙ sym (get_or-drop sections_at w i 0))
