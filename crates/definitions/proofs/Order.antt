-- `before` is a strict total order on pairs.
use native.Mathlib.Omega.{arith}
use mathlib.Core.Path.{◌≡◌, refl, sym, ap, ◌∙◌}
use mathlib.Core.Logic.{◌⊎◌, inl, inr}
use mathlib.Core.Bool.{Bool, true, false, ◌&&◌, ◌||◌, true≢false, false≢true}
use borrow.Author.Tests.{ltb-true, ltb-false, eqb-true, lt-ltb, le-ltb, eq-eqb}
use Rattle.definitions.specs.Ends.{End, glob, arg, Pair, end_before, same_end, before}

pub or_true : (a b : Bool) → (a || b) ≡ true → (a ≡ true) ⊎ (b ≡ true)
or_true true b h = inl refl
or_true false b h = inr h

pub and_true : (a b : Bool) → (a && b) ≡ true → (a ≡ true) × (b ≡ true)
and_true true b h = (refl, h)
and_true false b h = absurd (false≢true h)

pub by_bool : {P : Type 0} (b : Bool) → (b ≡ true → P) → (b ≡ false → P) → P
by_bool true t f = t refl
by_bool false t f = f refl

end_tri : (x y : End) → end_before x y ≡ false → end_before y x ≡ false → x ≡ y
unfolding end_before
end_tri (glob x) (glob y) h k = ap glob (omega (arith, ltb-false x y h, ltb-false y x k))
end_tri (glob x) (arg y) h k = absurd (true≢false h)
end_tri (arg x) (glob y) h k = absurd (true≢false k)
end_tri (arg x) (arg y) h k = ap arg (omega (arith, ltb-false x y h, ltb-false y x k))

end_trans : (x y z : End) → end_before x y ≡ true → end_before y z ≡ true → end_before x z ≡ true
unfolding end_before
end_trans (glob x) (glob y) (glob z) h k = lt-ltb x z (omega (arith, ltb-true x y h, ltb-true y z k))
end_trans (glob x) (glob y) (arg z) h k = refl
end_trans (glob x) (arg y) (glob z) h k = absurd (false≢true k)
end_trans (glob x) (arg y) (arg z) h k = refl
end_trans (arg x) (glob y) (glob z) h k = absurd (false≢true h)
end_trans (arg x) (glob y) (arg z) h k = absurd (false≢true h)
end_trans (arg x) (arg y) (glob z) h k = absurd (false≢true k)
end_trans (arg x) (arg y) (arg z) h k = lt-ltb x z (omega (arith, ltb-true x y h, ltb-true y z k))

end_irrefl : (x : End) → end_before x x ≡ false
unfolding end_before
end_irrefl (glob x) = le-ltb x x (omega arith)
end_irrefl (arg x) = le-ltb x x (omega arith)

same_eq : (x y : End) → same_end x y ≡ true → x ≡ y
unfolding same_end
same_eq (glob x) (glob y) h = ap glob (eqb-true x y h)
same_eq (glob x) (arg y) h = absurd (false≢true h)
same_eq (arg x) (glob y) h = absurd (false≢true h)
same_eq (arg x) (arg y) h = ap arg (eqb-true x y h)

same_refl : (x : End) → same_end x x ≡ true
unfolding same_end
same_refl (glob x) = eq-eqb x x refl
same_refl (arg x) = eq-eqb x x refl

-- p stands before q: by its image, or with the same image by its sampler
pub Before : Pair → Pair → Type 0
Before p q = (end_before p.image q.image ≡ true) ⊎ ((p.image ≡ q.image) × (end_before p.sampler q.sampler ≡ true))

before_cases : (p q : Pair) → before p q ≡ true → Before p q
unfolding before Before
before_cases p q h = go (or_true _ _ h)
  where
    go : (end_before p.image q.image ≡ true) ⊎ ((same_end p.image q.image && end_before p.sampler q.sampler) ≡ true) → Before p q
    go (inl a) = inl a
    go (inr b) = let c = and_true (same_end p.image q.image) (end_before p.sampler q.sampler) b in inr (same_eq p.image q.image c.0, c.1)

or_right : (a b : Bool) → b ≡ true → (a || b) ≡ true
or_right true b h = refl
or_right false b h = h

before_of : (p q : Pair) → Before p q → before p q ≡ true
unfolding before Before
before_of p q (inl a) = rw a
before_of p q (inr b) = or_right (end_before p.image q.image) _ (rw (b.0, same_refl q.image) b.1)

pub before_trans : (p q r : Pair) → before p q ≡ true → before q r ≡ true → before p r ≡ true
unfolding Before
before_trans p q r h k = before_of p r (go (before_cases p q h) (before_cases q r k))
  where
    go : Before p q → Before q r → Before p r
    go (inl a) (inl b) = inl (end_trans _ _ _ a b)
    go (inl a) (inr b) = inl (rw b.0 at a)
    go (inr a) (inl b) = inl (rw a.0 b)
    go (inr a) (inr b) = inr (a.0 ∙ b.0, end_trans _ _ _ a.1 b.1)

pub pair_path : {p q : Pair} → p.image ≡ q.image → p.sampler ≡ q.sampler → p ≡ q
pair_path e h = λ i. record { image = e i; sampler = h i }

not_true_false : (b : Bool) → (b ≡ true → ⊥) → b ≡ false
not_true_false true h = absurd (h refl)
not_true_false false h = refl

contra : (b : Bool) → b ≡ false → b ≡ true → ⊥
contra b h k = false≢true (sym h ∙ k)

pub before_tri : (p q : Pair) → before p q ≡ false → before q p ≡ false → p ≡ q
unfolding Before
before_tri p q h k = pair_path i s
  where
    i : p.image ≡ q.image
    i = end_tri _ _ (not_true_false _ (λ a. contra _ h (before_of p q (inl a)))) (not_true_false _ (λ a. contra _ k (before_of q p (inl a))))

    s : p.sampler ≡ q.sampler
    s = end_tri _ _ (not_true_false _ (λ a. contra _ h (before_of p q (inr (i, a))))) (not_true_false _ (λ a. contra _ k (before_of q p (inr (sym i, a)))))

pub before_irrefl : (p : Pair) → before p p ≡ true → ⊥
unfolding Before
before_irrefl p h = go (before_cases p p h)
  where
    go : Before p p → ⊥
    go (inl a) = contra _ (end_irrefl p.image) a
    go (inr b) = contra _ (end_irrefl p.sampler) b.1
