-- The checks of an Access to a binding array (01, 3.7), as the code's tests come to them.
use Prim.Native.Nat.{ℕ, ◌<◌}
use native.Mathlib.Omega.{arith}
use mathlib.Core.Logic.{◌≢◌}
use mathlib.Core.Bool.{Bool, true, false, ◌&&◌, not, true≢false}
use mathlib.Core.Path.{◌≡◌, refl, ap, ◌∙◌, sym}
use mathlib.Core.List.{List, [], ◌∷◌}
use borrow.Author.Tests.{ne_eqb, eqb-true, lt-ltb}
use lib.Dec.{eqb, ltb}
use Rattle.definitions.specs.Codes.{buffer_space, SAMPLED, STORAGE_IMAGES, UNIFORM_BUFFERS, STORAGE_BUFFERS, meets}
use Rattle.definitions.specs.Module.{kind, sub, number, space, capabilities, operand}
use Rattle.definitions.specs.Checks.{fine, refused, refusal, ◌⇒◌, first}
use Rattle.definitions.specs.Origin.{Origin, has_origin}
use Rattle.definitions.specs.State.{State}
use Rattle.definitions.specs.Expressions.{base, base_space, index_origin, capability_asked, access}
use Rattle.module.specs.declared.Expression.{Expression}
use Rattle.module.specs.Sheets.{IsExpression}
use Rattle.memory.specs.View.{Shape, viewed}
use Rattle.memory.specs.Changes.{origin_of_line}
use Rattle.memory.proofs.View.{at_origin}
use Rattle.rules_expressions.specs.Rules.{buffer_base, index_check}

module _ (m : List ℕ) (f e : ℕ) (x : Expression) (is : IsExpression m f e x) where
  kind_here : (k : ℕ) → x.kind ≡ k → kind m f e ≡ k
  kind_here k h = sym is.kind_is ∙ h

  kind_not : (k : ℕ) → x.kind ≢ k → eqb (kind m f e) k ≡ false
  kind_not k h = ne_eqb (kind m f e) k (λ q. h (is.kind_is ∙ q))

  sub_here : (u : ℕ) → x.sub ≡ u → sub m f e ≡ u
  sub_here u q = sym is.sub_is ∙ q

  sub_not : (k : ℕ) → x.sub ≢ k → eqb (sub m f e) k ≡ false
  sub_not k h = ne_eqb (sub m f e) k (λ q. h (is.sub_is ∙ q))

  -- a base: a global in Uniform or Storage, or not
  pub base_buffer : (s : ℕ) (b : Bool) → x.kind ≡ 2 → s ≡ space m x.number → b ≡ buffer_space s → b ≡ buffer_base m f e
  unfolding buffer_base
  base_buffer s b k h q = rw (kind_here 2 k, q, h, is.number_is)

  pub base_none : x.kind ≢ 2 → false ≡ buffer_base m f e
  unfolding buffer_base
  base_none k = rw (kind_not 2 k)

  -- the capability asked for
  pub asked_images : x.sub ≡ 1 → 2 ≡ capability_asked m f e
  unfolding capability_asked STORAGE_IMAGES
  asked_images h = rw (sub_here 1 h)

  pub asked_sampled : x.sub ≡ 2 → 1 ≡ capability_asked m f e
  unfolding capability_asked SAMPLED
  asked_sampled h = rw (sub_here 2 h)

  pub asked_uniform : (s b : ℕ) → x.sub ≢ 1 → x.sub ≢ 2 → b ≡ base m f e → s ≡ space m (number m f b) → s ≡ 6 → 4 ≡ capability_asked m f e
  unfolding capability_asked base_space UNIFORM_BUFFERS
  asked_uniform s b n o p q h = rw (sub_not 1 n, sub_not 2 o, ← p, ← q, h)

  pub asked_storage : (s b : ℕ) → x.sub ≢ 1 → x.sub ≢ 2 → b ≡ base m f e → s ≡ space m (number m f b) → s ≢ 6 → 8 ≡ capability_asked m f e
  unfolding capability_asked base_space STORAGE_BUFFERS
  asked_storage s b n o p q h = rw (sub_not 1 n, sub_not 2 o, ← p, ← q, ne_eqb s 6 h)

  -- the first check, and what is left for the second
  module _ (s : State) where
    pub access_other : x.kind ≢ 5 → fine tt ≡ first (access m f e s)
    unfolding access first ◌⇒◌
    access_other k = rw (kind_not 5 k)

    pub access_plain : x.kind ≡ 5 → x.sub ≡ 0 → fine tt ≡ first (access m f e s)
    unfolding access first ◌⇒◌
    access_plain k u = rw (kind_here 5 k, sub_here 0 u)

    pub access_base_wrong : (b : ℕ) → x.kind ≡ 5 → x.sub ≡ 3 → b ≡ operand m f e 0 → false ≡ buffer_base m f b → refused (refusal 8 f e) ≡ first (access m f e s)
    unfolding access first ◌⇒◌ buffer_base base base_space
    access_base_wrong b k u p q =
        let z : (eqb (kind m f (operand m f e 0)) 2 && buffer_space (space m (number m f (operand m f e 0)))) ≡ false = sym (rw p at q) in
        rw (kind_here 5 k, sub_here 3 u, z)

    pub access_buffer : (b : ℕ) → x.kind ≡ 5 → x.sub ≡ 3 → b ≡ operand m f e 0 → true ≡ buffer_base m f b → first (index_check m f e s) ≡ first (access m f e s)
    unfolding access first ◌⇒◌ buffer_base base base_space index_check
    access_buffer b k u p q =
        let z : (eqb (kind m f (operand m f e 0)) 2 && buffer_space (space m (number m f (operand m f e 0)))) ≡ true = sym (rw p at q) in
        rw (kind_here 5 k, sub_here 3 u, z)

    pub access_image : x.kind ≡ 5 → x.sub ≢ 0 → x.sub ≢ 3 → first (index_check m f e s) ≡ first (access m f e s)
    unfolding access first ◌⇒◌ index_check
    access_image k u v =
        let n : sub m f e ≢ 0 = λ z. u (is.sub_is ∙ z) in
        let a : ltb 0 (sub m f e) ≡ true = lt-ltb 0 (sub m f e) (omega arith) in
        rw (kind_here 5 k, sub_not 3 v, a)

-- the base is a global where its space decides
pub buffer_global : (m : List ℕ) (f b : ℕ) → true ≡ buffer_base m f b → kind m f b ≡ 2
unfolding buffer_base
buffer_global m f b q = go (eqb (kind m f b) 2) refl q
  where
    go : (c : Bool) → eqb (kind m f b) 2 ≡ c → true ≡ (c && buffer_space (space m (number m f b))) → kind m f b ≡ 2
    go true w z = eqb-true (kind m f b) 2 w
    go false w z = absurd (true≢false z)

-- the second check: the index i, whose line says o
module _ (m : List ℕ) (f e : ℕ) (h : Shape) (w : List ℕ) (i : ℕ) (o : Origin) (q : h.known ≡ e) (k : operand m f e 1 < e) (p : i ≡ operand m f e 1) (r : o ≡ origin_of_line w i) where
  index_said : index_origin m f e (viewed h w) ≡ o
  unfolding index_origin
  index_said = at_origin h w (operand m f e 1) (omega arith) ∙ ap (origin_of_line w) (sym p) ∙ sym r

  pub index_uniform : (t : Bool) → t ≡ has_origin o → t ≡ false → fine tt ≡ first (index_check m f e (viewed h w))
  unfolding index_check first ◌⇒◌
  index_uniform t a b = rw (index_said, ← a, b)

  module _ (c b : ℕ) (allowed : c ≡ capabilities m) (asked : b ≡ capability_asked m f e) (t : Bool) (met : t ≡ meets c b) where
    pub index_allowed : t ≡ true → fine tt ≡ first (index_check m f e (viewed h w))
    unfolding index_check first ◌⇒◌
    index_allowed z = rw (index_said, ← allowed, ← asked, ← met, z) (go (has_origin o))
      where
        go : (d : Bool) → fine tt ≡ first ((d && not true ⇒ refusal 9 f e) ∷ [])
        go true = refl
        go false = refl

    pub index_missing : (d : Bool) → d ≡ has_origin o → d ≡ true → t ≡ false → refused (refusal 9 f e) ≡ first (index_check m f e (viewed h w))
    unfolding index_check first ◌⇒◌
    index_missing d u v z = rw (index_said, ← allowed, ← asked, ← met, z, ← u, v)
