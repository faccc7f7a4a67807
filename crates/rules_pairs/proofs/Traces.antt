-- The ways through tracing, in plain variables.
use Prim.Native.Nat.{ℕ, ◌+◌, ◌<◌, ◌≤◌}
use native.Mathlib.Omega.{arith}
use native.Mathlib.Decide.{dec_lt}
use mathlib.Core.Path.{◌≡◌, refl, sym, ap, ◌∙◌}
use mathlib.Core.List.{List}
use borrow.Author.Tests.{ne_eqb}
use Rattle.definitions.specs.Checks.{Checked, fine, refused, refusal}
use Rattle.definitions.specs.Module.{kind, number, first_operand, operand, pooled, s_count, s_operand}
use Rattle.definitions.specs.Ends as paper
use Rattle.definitions.specs.Ends.{glob, arg, reaches, neither, trace, end_or_7, replaced}
use Rattle.definitions.specs.Pairs.{replace, replacing_place}
use Rattle.module.specs.Sheets.{IsExpression}
use Rattle.module.specs.declared.Sheet.{Sheet}
use Rattle.module.specs.declared.Expression.{Expression}
use Rattle.vocabulary.specs.declared.ids.GlobalIndex.{GlobalIndex}
use Rattle.vocabulary.specs.declared.ids.ArgumentIndex.{ArgumentIndex}
use Rattle.rules_pairs.specs.Said.{end_said, traced_said}
use Rattle.rules_pairs.specs.Tracing.{ValidTrace, ValidBase, based, ValidOperand, ValidSampling, ValidEnd}
use Rattle.rules_pairs.specs.declared.ends.GlobalOrArgument.{GlobalOrArgument}
use Rattle.rules_pairs.specs.declared.ends.GlobalOrArgument.TheVariants.{Global, Argument}
use Rattle.rules_pairs.specs.declared.traced.Traced.{Traced}
use Rattle.rules_pairs.specs.declared.traced.Traced.TheVariants as traced

-- 4.3, kind by kind
module _ (m : List ℕ) (f e : ℕ) (x : Expression) (is : IsExpression m f e x) where
  of_kind : (k : ℕ) → x.kind ≡ k → kind m f e ≡ k
  of_kind k h = sym is.kind_is ∙ h

  pub argument_traced : x.kind ≡ 1 → reaches (arg x.number) ≡ trace m f e
  unfolding trace
  argument_traced h = rw (of_kind 1 h, is.number_is)

  pub global_traced : x.kind ≡ 2 → reaches (glob x.number) ≡ trace m f e
  unfolding trace
  global_traced h = rw (of_kind 2 h, is.number_is)

  first_is_base : x.first + 0 ≡ x.first
  first_is_base = omega arith

  base_is : operand m f e 0 ≡ pooled m f x.first
  unfolding operand
  base_is = ap (λ (k : ℕ). pooled m f (k + 0)) (sym is.first_is) ∙ ap (pooled m f) first_is_base

  -- kind 5 or 6
  pub access_traced : (r : paper.Traced) → 5 ≤ x.kind → x.kind ≤ 6 → r ≡ based m f x.first → r ≡ trace m f e
  unfolding trace based
  access_traced r h k u = go (dec_lt x.kind 6)
    where
      go : Dec (x.kind < 6) → r ≡ trace m f e
      go (yes lt) = let q : x.kind ≡ 5 = omega arith in rw (of_kind 5 q, base_is) u
      go (no n) = let q : x.kind ≡ 6 = omega arith in rw (of_kind 6 q, base_is) u

  pub neither_traced : (x.kind ≡ 1 → ⊥) → (x.kind ≡ 2 → ⊥) → (x.kind ≡ 5 → ⊥) → (x.kind ≡ 6 → ⊥) → neither ≡ trace m f e
  unfolding trace
  neither_traced h₁ h₂ h₅ h₆ =
      let k = is.kind_is in
      simp (ne_eqb (kind m f e) 1 (λ q. h₁ (k ∙ q)), ne_eqb (kind m f e) 2 (λ q. h₂ (k ∙ q)), ne_eqb (kind m f e) 5 (λ q. h₅ (k ∙ q)), ne_eqb (kind m f e) 6 (λ q. h₆ (k ∙ q)))

  -- an access has a base
  pub has_base : (s : Sheet) → s.function ≡ f → ValidTrace m s e → (k : ℕ) → x.kind ≡ k → 5 ≤ k → k ≤ 6 → ValidBase m s x.first
  has_base s q t k h a b =
      let g : kind m s.function e ≡ k = ap (λ (y : ℕ). kind m y e) q ∙ of_kind k h in
      let first : first_operand m s.function e ≡ x.first = ap (λ (y : ℕ). first_operand m y e) q ∙ sym is.first_is in
      let p = t.bases.pooled_in e t.is_known (omega arith) (omega arith) in
      let o = t.bases.is_known e t.is_known (omega arith) (omega arith) in
      let b' : operand m s.function e 0 ≡ pooled m s.function x.first = ap (λ (y : ℕ). operand m y e 0) q ∙ base_is ∙ ap (λ (y : ℕ). pooled m y x.first) (sym q) in
      record { stands = t.stands; pooled_in = omega arith; is_known = rw b' at o }

-- a base
pub base_global : (m : List ℕ) (f p b : ℕ) (x : Expression) → b ≡ pooled m f p → IsExpression m f b x → x.kind ≡ 2 → reaches (glob x.number) ≡ based m f p
unfolding based
base_global m f p b x q is h =
    let k : kind m f (pooled m f p) ≡ 2 = ap (kind m f) (sym q) ∙ sym is.kind_is ∙ h in
    let n : number m f (pooled m f p) ≡ x.number = ap (number m f) (sym q) ∙ sym is.number_is in
    rw (k, n)

pub base_other : (m : List ℕ) (f p b : ℕ) (x : Expression) → b ≡ pooled m f p → IsExpression m f b x → (x.kind ≡ 2 → ⊥) → neither ≡ based m f p
unfolding based
base_other m f p b x q is h =
    simp (ne_eqb (kind m f (pooled m f p)) 2 (λ e. h (is.kind_is ∙ ap (kind m f) q ∙ e)))

-- 4.3 refusal 7
pub is_global_end : (t : Traced) (g : GlobalIndex) (f place : ℕ) → t ≡ traced.Global g → fine (glob g.0) ≡ end_or_7 f place (traced_said t)
unfolding end_or_7
is_global_end t g f place h = rw h

pub is_argument_end : (t : Traced) (a : ArgumentIndex) (f place : ℕ) → t ≡ traced.Argument a → fine (arg a.0) ≡ end_or_7 f place (traced_said t)
unfolding end_or_7
is_argument_end t a f place h = rw h

-- the tags that the two tests leave are that of neither
pub no_end : (t : Traced) (f place : ℕ) → ((g : GlobalIndex) → t ≡ traced.Global g → ⊥) → ((a : ArgumentIndex) → t ≡ traced.Argument a → ⊥)
    → refused (refusal 7 f place) ≡ end_or_7 f place (traced_said t)
unfolding end_or_7
no_end (traced.Global g) f place h k = absurd (h g refl)
no_end (traced.Argument a) f place h k = absurd (k a refl)
no_end traced.Neither f place h k = refl

-- an operand at a place of the pool
pub operand_ended : (m : List ℕ) (f e p x : ℕ) (t : paper.Traced) (i : Checked paper.End) → x ≡ pooled m f p → t ≡ trace m f x → i ≡ end_or_7 f e t
    → i ≡ end_or_7 f e (trace m f (pooled m f p))
operand_ended m f e p x t i q h k = k ∙ ap (end_or_7 f e) (h ∙ ap (trace m f) q)

-- 4.5 the operands of a sampling
module _ (m : List ℕ) (s : Sheet) (e first : ℕ) (sampling : ValidSampling m s e first) where
  pub image_is : operand m s.function e 0 ≡ pooled m s.function first
  unfolding operand
  image_is = let z : first + 0 ≡ first = omega arith in ap (λ (k : ℕ). pooled m s.function (k + 0)) (sym sampling.begins) ∙ ap (pooled m s.function) z

  pub sampler_is : operand m s.function e 1 ≡ pooled m s.function (first + 1)
  unfolding operand
  sampler_is = ap (λ (k : ℕ). pooled m s.function (k + 1)) (sym sampling.begins)

  pub image_operand : ValidOperand m s first
  image_operand =
      let p = sampling.pooled_in in
      let k = sampling.image_known in
      record { stands = sampling.stands; bases = sampling.bases; pooled_in = omega arith; is_known = omega (arith, image_is) }

  pub sampler_operand : ValidOperand m s (first + 1)
  sampler_operand =
      let k = sampling.sampler_known in
      record { stands = sampling.stands; bases = sampling.bases; pooled_in = sampling.pooled_in; is_known = omega (arith, sampler_is) }

-- 4.6 an end of the callee
pub carried_global : (m : List ℕ) (f t : ℕ) (x : GlobalOrArgument) (g : GlobalIndex) → x ≡ Global g → fine (end_said x) ≡ replace m f t (end_said x)
unfolding replace replaced replacing_place end_or_7
carried_global m f t x g h = rw h

module _ (m : List ℕ) (s : Sheet) (t first : ℕ) (x : GlobalOrArgument) (a : ArgumentIndex) (carried : ValidEnd m s t first (end_said x)) (h : x ≡ Argument a) where
  pub argument_below : a.0 < s_count m s.function t
  argument_below = (rw h at carried).below

  argument_at : (o : ℕ) → o ≡ pooled m s.function (first + a.0) → o ≡ s_operand m s.function t a.0
  unfolding s_operand
  argument_at o q = q ∙ ap (λ (k : ℕ). pooled m s.function (k + a.0)) carried.calling.begins

  pub argument_traceable : (o : ℕ) → o ≡ pooled m s.function (first + a.0) → ValidTrace m s o
  argument_traceable o q =
      let e = argument_at o q in
      let k = carried.calling.is_known a.0 argument_below in
      record { stands = carried.calling.stands; bases = carried.calling.bases; is_known = omega arith }

  pub argument_carried : (o : ℕ) (t₁ : paper.Traced) (i : Checked paper.End) → o ≡ pooled m s.function (first + a.0) → t₁ ≡ trace m s.function o
      → i ≡ end_or_7 s.function o t₁ → i ≡ replace m s.function t (end_said x)
  unfolding replace replaced replacing_place
  argument_carried o t₁ i q u v =
      let e = argument_at o q in
      rw h (v ∙ ap (end_or_7 s.function o) u ∙ ap (λ (k : ℕ). end_or_7 s.function k (trace m s.function k)) e)
