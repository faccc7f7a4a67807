-- What stands in the lists after one entry, after one sampling, and after one pair that a Call takes.
use Prim.Native.Nat.{ℕ, ◌≤◌}
use native.Mathlib.Omega.{arith}
use mathlib.Core.List.{List}
use mathlib.Core.Path.{◌≡◌, refl, sym, ap, ◌∙◌, subst}
use mathlib.Core.Logic.{◌⊎◌, inl, inr}
use mathlib.Core.Bool.{Bool, true, false, cond}
use lib.Dec.{leb}
use lib.ListN.{length}
use borrow.Author.Tests.{leb-true}
use Rattle.definitions.specs.Limits.{Limits}
use Rattle.definitions.specs.Module.{operand}
use Rattle.definitions.specs.Checks.{Refusal, refusal, fine, refused}
use Rattle.definitions.specs.Ends.{End, Pair, Traced, reaches, neither, trace, end_or_7, replaced, both_global}
use Rattle.definitions.specs.Pairs.{Lists, no_pairs, insert, within, enter, sample, replace, take_pair}
use Rattle.definitions.specs.Chains.{Mem, Ascending}
use Rattle.definitions.proofs.Order.{pair_path}
use Rattle.definitions.proofs.Sorted.{mem_insert, insert_mem, insert_ascending}
use Rattle.definitions.proofs.Fold.{bind_fine, fine_inj, not_fine}

abbrev pub Has : Pair → Lists → Type 0
Has x l = Mem x l.pairs ⊎ Mem x l.mixed

-- pairs of globals on one side, the others on the other, both ascending, neither longer than may be
pub record Kept (L : Limits) (l : Lists) : Type 0 where
  pub pairs_global : (x : Pair) → Mem x l.pairs → both_global x ≡ true
  pub mixed_not : (x : Pair) → Mem x l.mixed → both_global x ≡ false
  pub pairs_up : Ascending l.pairs
  pub mixed_up : Ascending l.mixed
  pub few_pairs : length l.pairs ≤ L.pairs
  pub few_mixed : length l.mixed ≤ L.pairs

pub none_kept : (L : Limits) → Kept L no_pairs
unfolding no_pairs
none_kept L = record { pairs_global = λ x m. absurd m; mixed_not = λ x m. absurd m; pairs_up = tt; mixed_up = tt; few_pairs = omega arith; few_mixed = omega arith }

pub none_has : (x : Pair) → Has x no_pairs → ⊥
unfolding no_pairs
none_has x (inl h) = h
none_has x (inr h) = h

-- an entry that was not refused goes to the one list or the other
pub data Entered (L : Limits) (x : Pair) (l l' : Lists) : Type 0 where
  as_pair : both_global x ≡ true → length (insert x l.pairs) ≤ L.pairs → record { pairs = insert x l.pairs; mixed = l.mixed } ≡ l' → Entered L x l l'
  as_mixed : both_global x ≡ false → length (insert x l.mixed) ≤ L.pairs → record { pairs = l.pairs; mixed = insert x l.mixed } ≡ l' → Entered L x l l'

within_fine : (L : Limits) (r : Refusal) (l l' : List Pair) → within L r l ≡ fine l' → (length l ≤ L.pairs) × (l ≡ l')
unfolding within
within_fine L r l l' e = go (leb (length l) L.pairs) refl e
  where
    go : (b : Bool) → leb (length l) L.pairs ≡ b → cond b (fine l) (refused r) ≡ fine l' → (length l ≤ L.pairs) × (l ≡ l')
    go true w h = (leb-true _ _ w, fine_inj h)
    go false w h = absurd (not_fine h)

entered : (L : Limits) (r : Refusal) (x : Pair) (l l' : Lists) → enter L r x l ≡ fine l' → Entered L x l l'
unfolding enter
entered L r x l l' e = go (both_global x) refl
  where
    go : (b : Bool) → both_global x ≡ b → Entered L x l l'
    go true h =
        let a = bind_fine (within L r (insert x l.pairs)) _ (rw (h, enter) at e) in
        let w = within_fine L r _ a.0 a.1 in
        as_pair h w.0 (ap (λ ps. record { pairs = ps; mixed = l.mixed }) w.1 ∙ fine_inj a.2)
    go false h =
        let a = bind_fine (within L r (insert x l.mixed)) _ (rw (h, enter) at e) in
        let w = within_fine L r _ a.0 a.1 in
        as_mixed h w.0 (ap (λ ps. record { pairs = l.pairs; mixed = ps }) w.1 ∙ fine_inj a.2)

enter_from : (L : Limits) (x : Pair) (l l' : Lists) → Entered L x l l' → (z : Pair) → Has z l' → Has z l ⊎ (z ≡ x)
enter_from L x l l' k z h = go k
  where
    swap : {A : Type 0} → (A → Has z l) → (z ≡ x) ⊎ A → Has z l ⊎ (z ≡ x)
    swap f (inl e) = inr e
    swap f (inr a) = inl (f a)

    as1 : Has z (record { pairs = insert x l.pairs; mixed = l.mixed }) → Has z l ⊎ (z ≡ x)
    as1 (inl m) = swap inl (mem_insert x l.pairs z m)
    as1 (inr m) = inl (inr m)

    as2 : Has z (record { pairs = l.pairs; mixed = insert x l.mixed }) → Has z l ⊎ (z ≡ x)
    as2 (inl m) = inl (inl m)
    as2 (inr m) = swap inr (mem_insert x l.mixed z m)

    go : Entered L x l l' → Has z l ⊎ (z ≡ x)
    go (as_pair b n e) = as1 (subst (Has z) (sym e) h)
    go (as_mixed b n e) = as2 (subst (Has z) (sym e) h)

enter_to : (L : Limits) (x : Pair) (l l' : Lists) → Entered L x l l' → (z : Pair) → Has z l ⊎ (z ≡ x) → Has z l'
enter_to L x l l' k z h = go k h
  where
    go : Entered L x l l' → Has z l ⊎ (z ≡ x) → Has z l'
    go (as_pair b n e) (inl (inl m)) = subst (Has z) e (inl (insert_mem x l.pairs z (inr m)))
    go (as_pair b n e) (inl (inr m)) = subst (Has z) e (inr m)
    go (as_pair b n e) (inr w) = subst (Has z) e (inl (insert_mem x l.pairs z (inl w)))
    go (as_mixed b n e) (inl (inl m)) = subst (Has z) e (inl m)
    go (as_mixed b n e) (inl (inr m)) = subst (Has z) e (inr (insert_mem x l.mixed z (inr m)))
    go (as_mixed b n e) (inr w) = subst (Has z) e (inr (insert_mem x l.mixed z (inl w)))

enter_kept : (L : Limits) (x : Pair) (l l' : Lists) → Entered L x l l' → Kept L l → Kept L l'
enter_kept L x l l' i k = go i
  where
    new : (b : Bool) → both_global x ≡ b → (xs : List Pair) → ((z : Pair) → Mem z xs → both_global z ≡ b) → (z : Pair) → (z ≡ x) ⊎ Mem z xs → both_global z ≡ b
    new b h xs old z (inl e) = ap both_global e ∙ h
    new b h xs old z (inr m) = old z m

    go : Entered L x l l' → Kept L l'
    go (as_pair b n e) = subst (Kept L) e (record {
      pairs_global = λ z m. new true b l.pairs k.pairs_global z (mem_insert x l.pairs z m);
      mixed_not = k.mixed_not;
      pairs_up = insert_ascending x l.pairs k.pairs_up;
      mixed_up = k.mixed_up;
      few_pairs = n;
      few_mixed = k.few_mixed;
    })
    go (as_mixed b n e) = subst (Kept L) e (record {
      pairs_global = k.pairs_global;
      mixed_not = λ z m. new false b l.mixed k.mixed_not z (mem_insert x l.mixed z m);
      pairs_up = k.pairs_up;
      mixed_up = insert_ascending x l.mixed k.mixed_up;
      few_pairs = k.few_pairs;
      few_mixed = n;
    })

end_fine : (f p : ℕ) (t : Traced) {x : End} → end_or_7 f p t ≡ fine x → t ≡ reaches x
unfolding end_or_7
end_fine f p neither e = absurd (not_fine e)
end_fine f p (reaches y) e = ap reaches (fine_inj e)

same_end_reached : (t : Traced) {x y : End} → t ≡ reaches x → t ≡ reaches y → x ≡ y
same_end_reached t p q = cc

-- two traced ends, and the lists that their pair was entered into
pub record Took (L : Limits) (i s : Traced) (l l' : Lists) : Type 0 where
  pub pair : Pair
  pub by_image : i ≡ reaches pair.image
  pub by_sampler : s ≡ reaches pair.sampler
  pub now_lists : Entered L pair l l'

pub took_from : {L : Limits} {i s : Traced} {l l' : Lists} → Took L i s l l' → (z : Pair) → Has z l' → Has z l ⊎ ((i ≡ reaches z.image) × (s ≡ reaches z.sampler))
took_from {L} {i} {s} {l} {l'} k z h = go (enter_from L k.pair l l' k.now_lists z h)
  where
    go : Has z l ⊎ (z ≡ k.pair) → Has z l ⊎ ((i ≡ reaches z.image) × (s ≡ reaches z.sampler))
    go (inl a) = inl a
    go (inr e) = inr (rw e k.by_image, rw e k.by_sampler)

pub took_to : {L : Limits} {i s : Traced} {l l' : Lists} → Took L i s l l' → (z : Pair) → Has z l ⊎ ((i ≡ reaches z.image) × (s ≡ reaches z.sampler)) → Has z l'
took_to {L} {i} {s} {l} {l'} k z h = enter_to L k.pair l l' k.now_lists z (go h)
  where
    go : Has z l ⊎ ((i ≡ reaches z.image) × (s ≡ reaches z.sampler)) → Has z l ⊎ (z ≡ k.pair)
    go (inl a) = inl a
    go (inr d) = inr (pair_path (same_end_reached i d.0 k.by_image) (same_end_reached s d.1 k.by_sampler))

pub took_kept : {L : Limits} {i s : Traced} {l l' : Lists} → Took L i s l l' → Kept L l → Kept L l'
took_kept {L} {l = l} {l' = l'} k h = enter_kept L k.pair l l' k.now_lists h

pub sample_took : (L : Limits) (m : List ℕ) (f e : ℕ) (l l' : Lists) → sample L m f e l ≡ fine l' → Took L (trace m f (operand m f e 0)) (trace m f (operand m f e 1)) l l'
unfolding sample
sample_took L m f e l l' h =
    let a = bind_fine _ _ h in
    let b = bind_fine _ _ a.2 in
    record {
      pair = record { image = a.0; sampler = b.0 };
      by_image = end_fine f e _ a.1;
      by_sampler = end_fine f e _ b.1;
      now_lists = entered L (refusal 12 f e) _ l l' b.2;
    }

pub take_took : (L : Limits) (m : List ℕ) (f t : ℕ) (q : Pair) (l l' : Lists) → take_pair L m f t q l ≡ fine l' → Took L (replaced m f t q.image) (replaced m f t q.sampler) l l'
unfolding take_pair replace
take_took L m f t q l l' h =
    let a = bind_fine _ _ h in
    let b = bind_fine _ _ a.2 in
    record {
      pair = record { image = a.0; sampler = b.0 };
      by_image = end_fine f _ _ a.1;
      by_sampler = end_fine f _ _ b.1;
      now_lists = entered L (refusal 12 f t) _ l l' b.2;
    }
