-- Every end in a function's lists is a global of the module, or one of the function's arguments: so a Call has an
-- operand for each argument in its callee's lists.
use Prim.Native.Nat.{ℕ, ◌<◌, ◌≤◌}
use native.Mathlib.Omega.{arith}
use mathlib.Core.Path.{◌≡◌, refl, ap, subst}
use mathlib.Core.List.{List}
use mathlib.Core.Logic.{◌⊎◌, inl, inr}
use mathlib.Core.Bool.{Bool, true, false, not, ◌&&◌, ◌||◌}
use lib.Dec.{eqb, leb}
use borrow.Author.Tests.{eqb-true, eq-eqb, leb-false, not-false}
use Rattle.definitions.specs.Limits.{Limits}
use Rattle.definitions.specs.Checks.{fine}
use Rattle.definitions.specs.Module.{globals, functions, kind, number, arguments, expressions, operand, s_kind, s_number, s_count, s_operand}
use Rattle.definitions.specs.Ends.{End, glob, arg, Pair, Traced, reaches, neither, trace, replaced}
use Rattle.definitions.specs.Summary.{Section, summary_of}
use Rattle.definitions.specs.Analyse.{section_of, sections}
use Rattle.definitions.proofs.Order.{or_true, and_true}
use Rattle.definitions.proofs.Passed.{when_left}
use Rattle.definitions.proofs.Formed.{ExpressionFormed, StatementFormed, SheetFormed, Formed, call_lower, global_in, s_operand_in}
use Rattle.definitions.proofs.Wanted.{sample_image, sample_sampler, base_earlier}
use Rattle.definitions.proofs.Enter.{Has}
use Rattle.definitions.proofs.Step.{lists_of, Samples, Takes, Calls, Found, function_from}
use Rattle.definitions.proofs.Modules.{up_to}

-- g globals, n arguments
abbrev pub EndIn : ℕ → ℕ → End → Type 0
EndIn g n (glob x) = x < g
EndIn g n (arg a) = a < n

abbrev pub EndsIn : ℕ → ℕ → Pair → Type 0
EndsIn g n p = EndIn g n p.image × EndIn g n p.sampler

end_of : Traced → End → End
end_of (reaches x) d = x
end_of neither d = d

reaches_one : {x y : End} → reaches x ≡ reaches y → x ≡ y
unfolding end_of
reaches_one {x} e = ap (λ t. end_of t x) e

not_neither : {x : End} → neither ≡ reaches x → ⊥
not_neither e = let z : ◌≡◌ {A = ℕ} 0 1 = cc in omega arith

-- a Call has as many operands as its callee has arguments
pub call_arguments : (L : Limits) (m : List ℕ) (f t : ℕ) → StatementFormed L m f t → s_kind m f t ≡ 6 → s_count m f t ≡ arguments m (s_number m f t)
call_arguments L m f t h k =
    eqb-true (s_count m f t) (arguments m (s_number m f t))
    (not-false (eqb (s_count m f t) (arguments m (s_number m f t)))
    (when_left (eqb (s_kind m f t) 6) (not (eqb (s_count m f t) (arguments m (s_number m f t)))) (eq-eqb (s_kind m f t) 6 k) h.arguments_fit))

module _ (L : Limits) (m : List ℕ) (f : ℕ) (sheet : SheetFormed L m f) where
  In : End → Type 0
  In y = EndIn (globals m) (arguments m f) y

  access_kind : (k : ℕ) → (eqb k 5 || eqb k 6) ≡ true → (5 ≤ k) × (k ≤ 6)
  access_kind k h = go (or_true _ _ h)
    where
      go : (eqb k 5 ≡ true) ⊎ (eqb k 6 ≡ true) → (5 ≤ k) × (k ≤ 6)
      go (inl a) = let e = eqb-true k 5 a in omega arith
      go (inr a) = let e = eqb-true k 6 a in omega arith

  -- 4.3 an end that an expression of f traces to
  traced_in : (x : ℕ) → x < expressions m f → (y : End) → trace m f x ≡ reaches y → In y
  unfolding trace In
  traced_in x lt y h = go (eqb (kind m f x) 2) (eqb (kind m f x) 1) ((eqb (kind m f x) 5 || eqb (kind m f x) 6) && eqb (kind m f (operand m f x 0)) 2) refl refl refl
    where
      formed : ExpressionFormed m f x
      formed = sheet.each_expression x lt

      go : (a b c : Bool) → eqb (kind m f x) 2 ≡ a → eqb (kind m f x) 1 ≡ b → ((eqb (kind m f x) 5 || eqb (kind m f x) 6) && eqb (kind m f (operand m f x 0)) 2) ≡ c → In y
      go true b c p q r = let e : glob (number m f x) ≡ y = reaches_one (rw p at h) in subst In e (global_in m f x formed (eqb-true _ _ p))
      go false true c p q r =
          let e : arg (number m f x) ≡ y = reaches_one (rw (p, q) at h) in
          subst In e
          (leb-false (arguments m f) (number m f x) (when_left (eqb (kind m f x) 1) (leb (arguments m f) (number m f x)) q formed.argument_there))
      go false false true p q r =
          let e : glob (number m f (operand m f x 0)) ≡ y = reaches_one (rw (p, q, r) at h) in
          let k = and_true (eqb (kind m f x) 5 || eqb (kind m f x) 6) (eqb (kind m f (operand m f x 0)) 2) r in
          let a = access_kind (kind m f x) k.0 in
          let b = base_earlier m f x formed a.0 a.1 in
          subst In e (global_in m f (operand m f x 0) (sheet.each_expression (operand m f x 0) (omega arith)) (eqb-true _ _ k.1))
      go false false false p q r = let e : neither ≡ reaches y = rw (p, q, r) at h in absurd (not_neither e)

  -- 4.6 an end of the callee, in a Call of f
  replaced_in : (t : ℕ) → StatementFormed L m f t → s_kind m f t ≡ 6 → (x y : End) → EndIn (globals m) (arguments m (s_number m f t)) x → replaced m f t x ≡ reaches y → In y
  unfolding replaced In
  replaced_in t h k (glob g) y b e = subst In (reaches_one e) b
  replaced_in t h k (arg a) y b e =
      let n = call_arguments L m f t h k in
      traced_in (s_operand m f t a) (s_operand_in L m f t h a (omega arith)) y e

  -- a pair that the function finds, by itself or in a callee
  pub found_in : (done : List Section) → ((g : ℕ) → g < f → (x : Pair) → Has x (lists_of done g) → EndsIn (globals m) (arguments m g) x)
      → (z : Pair) → Found m done f z → EndsIn (globals m) (arguments m f) z
  unfolding Found Samples Calls Takes In
  found_in done lower z (inl a) =
      let e = a.0 in
      let h = sheet.each_expression e a.1 in
      let k = a.2.0 in
      let b = a.1 in
      let i = sample_image m f e h k in
      let s = sample_sampler m f e h k in
      (traced_in (operand m f e 0) (omega arith) z.image a.2.1, traced_in (operand m f e 1) (omega arith) z.sampler a.2.2)
  found_in done lower z (inr a) =
      let t = a.0 in
      let h = sheet.each_statement t a.1 in
      let k = a.2.0 in
      let q = a.2.1 in
      let below = lower (s_number m f t) (call_lower L m f t h k) q a.2.2 in
      (replaced_in t h k q.image z.image below.0 a.2.3.0, replaced_in t h k q.sampler z.sampler below.1 a.2.3.1)

-- of the functions that are done so far
pub lists_in : (L : Limits) (m : List ℕ) → Formed L m → (n : ℕ) → n ≤ functions m → (d : List Section) → sections L m n ≡ fine d
    → (f : ℕ) → f < n → (x : Pair) → Has x (lists_of d f) → EndsIn (globals m) (arguments m f) x
unfolding summary_of section_of
lists_in L m formed n h d e f lt =
    up_to L m (λ g y. (x : Pair) → Has x y.summary.lists → EndsIn (globals m) (arguments m g) x)
    (λ g done w k len ran lower x has. found_in L m g (formed.each_sheet g k) done lower x (function_from L m done g (formed.each_sheet g k) w ran x has))
    n h d e f lt
