-- The three ways that an insertion ends: the pair is there, the list is full, a place is opened for it.
use Prim.Native.Nat.{ℕ, ◌+◌, ◌*◌, ◌<◌, ◌≤◌}
use native.Mathlib.Omega.{arith}
use mathlib.Core.Path.{◌≡◌, refl, sym, ap, ◌∙◌}
use mathlib.Core.List.{List, ◌∷◌, ◌++◌}
use Rattle.std.specs.Prelude.{Some, None, Result, Ok, Err}
use lib.ListN.{length, take, drop, length-append, length-drop}
use lib.Seq.{length-take-le}
use borrow.Author.Tests.{le-leb, lt-leb}
use Rattle.definitions.specs.Limits.{Limits}
use Rattle.definitions.specs.Checks.{Refusal, fine, refused}
use Rattle.definitions.specs.Ends.{Pair}
use Rattle.definitions.specs.Pairs.{insert, within}
use Rattle.rules_pairs.specs.Bytes.{listed, moved, stored, opened}
use Rattle.rules_pairs.specs.Facts.{FindResult, ValidInsert, InsertResult}
use Rattle.rules_pairs.proofs.OpenedPlace.{length_listed, length_opened, opened_listed, opened_before, opened_behind}

pub within_fits : (L : Limits) (full : Refusal) (l : List Pair) → length l ≤ L.pairs → within L full l ≡ fine l
unfolding within
within_fits L full l h = rw (le-leb (length l) L.pairs h)

pub within_full : (L : Limits) (full : Refusal) (l : List Pair) → L.pairs < length l → within L full l ≡ refused full
unfolding within
within_full L full l h = rw (lt-leb (length l) L.pairs h)

-- a list that has grown by one
one_more : (p : Pair) (l : List Pair) (i : ℕ) → i ≤ length l → length (take i l ++ (p ∷ drop i l)) ≡ length l + 1
one_more p l i h =
    let a = length-append (take i l) (p ∷ drop i l) in
    let b = length-take-le i l h in
    let c = length-drop i l in
    omega arith

pub place_within : (l : List Pair) (n : ℕ) (p : Pair) (r : Result ℕ ℕ) (i : ℕ) → FindResult l n p r → r ≡ Err i → i ≤ n
place_within l n p r i v e = (rw e at v).in_list

module _ (L : Limits) (w : List ℕ) (list n : ℕ) (p : Pair) (r : Result ℕ ℕ) (room : ValidInsert L w list n) (found : FindResult (listed w list n) n p r) where
  pub is_listed : (i : ℕ) → r ≡ Ok i → InsertResult L w list n p w (Some n)
  is_listed i e =
      let v : FindResult (listed w list n) n p (Ok i) = rw e at found in
      let h = room.few in
      record {
        said = λ full.
            sym (ap (within L full) (sym v.is) ∙ within_fits L full (listed w list n) (rw length_listed h));
        few = h;
        long = refl;
        before = refl;
        behind = refl;
      }

  module _ (i : ℕ) (e : r ≡ Err i) where
    grown : length (insert p (listed w list n)) ≡ n + 1
    grown =
        let v : FindResult (listed w list n) n p (Err i) = rw e at found in
        let h = v.in_list in
        ap length (sym v.is) ∙ one_more p (listed w list n) i (rw length_listed h) ∙ ap (λ (k : ℕ). k + 1) (length_listed w list n)

    pub is_full : L.pairs ≤ n → InsertResult L w list n p w None
    is_full h = record {
      said = λ full. sym (within_full L full (insert p (listed w list n)) (let g = grown in omega arith));
      few = room.few;
      long = refl;
      before = refl;
      behind = refl;
    }

    pub is_opened : (w₁ w₂ : List ℕ) → (L.pairs ≤ n → ⊥) → w₁ ≡ moved w (list + 6 * i) (list + 6 * n) → w₂ ≡ stored w₁ (list + 6 * i) p → InsertResult L w list n p w₂ (Some (n + 1))
    unfolding opened
    is_opened w₁ w₂ few m s =
        let v : FindResult (listed w list n) n p (Err i) = rw e at found in
        let h = v.in_list in
        let fits : list + 6 * n + 6 ≤ length w = (let f = room.fits in omega arith) in
        let is : w₂ ≡ opened w list n i p = s ∙ ap (λ (x : List ℕ). stored x (list + 6 * i) p) m in
        let long : length w₂ ≡ length w = ap length is ∙ length_opened w list n i p h fits in
        record {
          said = λ full.
              ap (λ (x : List ℕ). fine (listed x list (n + 1))) is
              ∙ ap fine (opened_listed w list n i p h fits ∙ v.is)
              ∙ sym (within_fits L full (insert p (listed w list n)) (let g = grown in omega arith));
          few = omega arith;
          long = long;
          before = ap (take list) is ∙ opened_before w list n i p h fits;
          behind = ap (drop (list + 6 * (n + 1))) is ∙ opened_behind w list n i p h fits;
        }
