-- Insertion into an ascending list of pairs: what stands in it then, and that it ascends.
use Prim.Native.Nat.{ℕ, zero, suc, ◌<◌}
use native.Mathlib.Omega.{arith}
use mathlib.Core.List.{List, [], ◌∷◌}
use mathlib.Core.Path.{◌≡◌, refl, sym, ◌∙◌, subst}
use mathlib.Core.Logic.{◌⊎◌, inl, inr}
use mathlib.Core.Bool.{Bool, true, false}
use lib.ListN.{length, get_or}
use Rattle.definitions.specs.Ends.{Pair, before}
use Rattle.definitions.specs.Pairs.{insert}
use Rattle.definitions.specs.Chains.{Mem, Ascending}
use Rattle.definitions.proofs.Order.{before_trans, before_tri, before_irrefl}

-- the three ways that an insertion goes
data View (x y : Pair) (ys : List Pair) : Type 0 where
  here : before x y ≡ true → insert x (y ∷ ys) ≡ x ∷ y ∷ ys → View x y ys
  later : before y x ≡ true → insert x (y ∷ ys) ≡ y ∷ insert x ys → View x y ys
  there : x ≡ y → insert x (y ∷ ys) ≡ y ∷ ys → View x y ys

view : (x y : Pair) (ys : List Pair) → View x y ys
unfolding insert
view x y ys = go (before x y) (before y x) refl refl
  where
    go : (b c : Bool) → before x y ≡ b → before y x ≡ c → View x y ys
    go true c h k = here h (rw (h, insert))
    go false true h k = later k (rw (h, k, insert))
    go false false h k = there (before_tri x y h k) (rw (h, k, insert))

pub mem_insert : (x : Pair) (l : List Pair) (z : Pair) → Mem z (insert x l) → (z ≡ x) ⊎ Mem z l
unfolding insert
mem_insert x [] z h = h
mem_insert x (y ∷ ys) z h = go (λ m. mem_insert x ys z m) (view x y ys)
  where
    tail : (z ≡ x) ⊎ Mem z ys → (z ≡ x) ⊎ Mem z (y ∷ ys)
    tail (inl e) = inl e
    tail (inr m) = inr (inr m)

    cases : (Mem z (insert x ys) → (z ≡ x) ⊎ Mem z ys) → Mem z (y ∷ insert x ys) → (z ≡ x) ⊎ Mem z (y ∷ ys)
    cases ih (inl e) = inr (inl e)
    cases ih (inr m) = tail (ih m)

    go : (Mem z (insert x ys) → (z ≡ x) ⊎ Mem z ys) → View x y ys → (z ≡ x) ⊎ Mem z (y ∷ ys)
    go ih (here b e) = subst (Mem z) e h
    go ih (later b e) = cases ih (subst (Mem z) e h)
    go ih (there b e) = inr (subst (Mem z) e h)

pub insert_mem : (x : Pair) (l : List Pair) (z : Pair) → (z ≡ x) ⊎ Mem z l → Mem z (insert x l)
unfolding insert
insert_mem x [] z h = h
insert_mem x (y ∷ ys) z h = go (λ m. insert_mem x ys z m) (view x y ys) h
  where
    go : ((z ≡ x) ⊎ Mem z ys → Mem z (insert x ys)) → View x y ys → (z ≡ x) ⊎ Mem z (y ∷ ys) → Mem z (insert x (y ∷ ys))
    go ih (here b e) k = subst (Mem z) (sym e) k
    go ih (later b e) (inl k) = subst (Mem z) (sym e) (inr (ih (inl k)))
    go ih (later b e) (inr (inl k)) = subst (Mem z) (sym e) (inl k)
    go ih (later b e) (inr (inr k)) = subst (Mem z) (sym e) (inr (ih (inr k)))
    go ih (there b e) (inl k) = subst (Mem z) (sym e) (inl (k ∙ b))
    go ih (there b e) (inr k) = subst (Mem z) (sym e) k

pub insert_ascending : (x : Pair) (l : List Pair) → Ascending l → Ascending (insert x l)
unfolding insert
insert_ascending x [] a = (λ z m. absurd m, tt)
insert_ascending x (y ∷ ys) a = go (insert_ascending x ys a.1) (view x y ys)
  where
    above_y : before y x ≡ true → (z : Pair) → (z ≡ x) ⊎ Mem z ys → before y z ≡ true
    above_y b z (inl e) = subst (λ v. before y v ≡ true) (sym e) b
    above_y b z (inr m) = a.0 z m

    above_x : before x y ≡ true → (z : Pair) → Mem z (y ∷ ys) → before x z ≡ true
    above_x b z (inl e) = subst (λ v. before x v ≡ true) (sym e) b
    above_x b z (inr m) = before_trans x y z b (a.0 z m)

    go : Ascending (insert x ys) → View x y ys → Ascending (insert x (y ∷ ys))
    go ih (here b e) = subst Ascending (sym e) (above_x b, a)
    go ih (later b e) = subst Ascending (sym e) (λ z m. above_y b z (mem_insert x ys z m), ih)
    go ih (there b e) = subst Ascending (sym e) a

-- an ascending list holds its head nowhere else
pub once : (x : Pair) (l : List Pair) → Ascending (x ∷ l) → Mem x l → ⊥
once x l a m = before_irrefl x (a.0 x m)

-- the entries of an ascending list, in the order of their places
pub mem_at : {A : Type 0} (l : List A) (k : ℕ) (d : A) → k < length l → Mem (get_or l k d) l
mem_at [] k d h = absurd (omega arith)
mem_at (y ∷ ys) zero d h = inl refl
mem_at (y ∷ ys) (suc k) d h = inr (mem_at ys k d (omega arith))

pub in_order : (l : List Pair) → Ascending l → (j k : ℕ) (d : Pair) → j < k → k < length l → before (get_or l j d) (get_or l k d) ≡ true
in_order [] a j k d lt h = absurd (omega arith)
in_order (y ∷ ys) a j zero d lt h = absurd (omega arith)
in_order (y ∷ ys) a zero (suc k) d lt h = a.0 (get_or ys k d) (mem_at ys k d (omega arith))
in_order (y ∷ ys) a (suc j) (suc k) d lt h = in_order ys a.1 j k d (omega arith) (omega arith)
