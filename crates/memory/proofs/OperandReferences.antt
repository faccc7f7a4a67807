-- References to the operands of a record, one after another: what they do to the state, and what they leave as it is.
use Prim.Native.Nat.{ℕ, zero, suc, ◌+◌, ◌*◌, ◌<◌, ◌≤◌}
use native.Mathlib.Omega.{arith}
use mathlib.Core.Logic.{◌≢◌}
use mathlib.Core.Bool.{Bool, true, false, cond}
use mathlib.Core.Path.{◌≡◌, refl, ap, ◌∙◌, sym}
use mathlib.Core.List.{List, [], ◌∷◌}
use borrow.Author.Tests.{eqb-true, eqb-false}
use lib.Dec.{eqb, ltb}
use lib.ListN.{length, set}
use Rattle.definitions.specs.Bytes.{byte, be16, be32, range}
use Rattle.definitions.specs.Module.{absent}
use Rattle.definitions.specs.Codes.{join}
use Rattle.definitions.specs.Checks.{through}
use Rattle.definitions.specs.Origin.{or_else, origin_from}
use Rattle.definitions.specs.State.{Operand, present, known_of, refer_all}
use Rattle.definitions.specs.Expressions.{first_origin}
use Rattle.definitions.proofs.Bounds.{CountsWithin}
use Rattle.numbers.specs.Stores.{store32}
use Rattle.numbers.proofs.Laws.{be16_set_apart, be32_set_apart, be16_store32_apart, be32_store32_apart, be32_store32}
use Rattle.memory.specs.Layout.{uses_at, pairs_at, size}
use Rattle.memory.specs.View.{Shape, count_at, viewed}
use Rattle.memory.specs.Changes.{origin_of_line, mask_of, counted_once, with_use, referred, refer_line, refer_lines, lines_origin, table}
use Rattle.memory.specs.Facts.{ValidShape}
use Rattle.memory.proofs.View.{at_origin, at_count}
use Rattle.memory.proofs.StoreState.{viewed_referred}
use Rattle.memory.proofs.Sections.{length_referred, referred_outside, table_before}

-- every operand names an expression below n
abbrev pub Below : ℕ → List Operand → Type 0
Below n [] = Unit {0}
Below n (o ∷ os) = (o.target < n) × Below n os

pub present_below : (n : ℕ) (op : ℕ → Operand) (a k : ℕ) → ((j : ℕ) → a ≤ j → j < a + k → (op j).target ≢ absent → (op j).target < n) → Below n (present op (range a k))
unfolding present range
present_below n op a zero h = tt
present_below n op a (suc k) h = go (eqb (op a).target absent) refl (present_below n op (suc a) k (λ j p q. h j (omega arith) (omega arith)))
  where
    go : (b : Bool) → eqb (op a).target absent ≡ b → Below n (present op (range (suc a) k)) → Below n (present op (a ∷ range (suc a) k))
    go true e rest = rw (e, present) rest
    go false e rest = rw (e, present) (h a (omega arith) (omega arith) (eqb-false (op a).target absent e), rest)

pub length_lines : (os : List Operand) (w : List ℕ) → length (refer_lines os w) ≡ length w
unfolding refer_lines through refer_line
length_lines [] w = refl
length_lines (o ∷ os) w = length_lines os (refer_line o w) ∙ length_referred (mask_of o.does) w o.target

-- the state after them is the definitions'
pub viewed_lines : (h : Shape) → ValidShape h → (os : List Operand) (w : List ℕ) → length w ≡ size → Below h.known os
    → viewed h (refer_lines os w) ≡ refer_all os (viewed h w)
unfolding refer_lines refer_all through refer_line
viewed_lines h fit [] w l b = refl
viewed_lines h fit (o ∷ os) w l b =
    viewed_lines h fit os (refer_line o w) (length_referred (mask_of o.does) w o.target ∙ l) b.1
    ∙ ap (λ s. refer_all os s) (viewed_referred h fit w l o.target b.0 o.does)

pub table_lines : (n : ℕ) → 9 * n ≤ uses_at → (os : List Operand) (w : List ℕ) → Below n os → table (refer_lines os w) ≡ table w
unfolding refer_lines through refer_line uses_at pairs_at
table_lines n k [] w b = refl
table_lines n k (o ∷ os) w b =
    table_lines n k os (refer_line o w) b.1
    ∙ table_before w (refer_line o w) (referred_outside (mask_of o.does) w o.target (omega (arith, b.0))) (length_referred (mask_of o.does) w o.target)

-- a reference leaves every origin as it is, and raises no count by more than one
used_16 : (w : List ℕ) (g u p : ℕ) → p + 2 ≤ uses_at → be16 (with_use w g u) p ≡ be16 w p
unfolding with_use
used_16 w g u p k = go (ltb (uses_at + g) pairs_at)
  where
    go : (b : Bool) → be16 (cond b (set w (uses_at + g) (join (byte w (uses_at + g)) u)) w) p ≡ be16 w p
    go true = be16_set_apart w (uses_at + g) (join (byte w (uses_at + g)) u) p (λ x y. omega arith)
    go false = refl

used_32 : (w : List ℕ) (g u p : ℕ) → p + 4 ≤ uses_at → be32 (with_use w g u) p ≡ be32 w p
unfolding with_use
used_32 w g u p k = go (ltb (uses_at + g) pairs_at)
  where
    go : (b : Bool) → be32 (cond b (set w (uses_at + g) (join (byte w (uses_at + g)) u)) w) p ≡ be32 w p
    go true = be32_set_apart w (uses_at + g) (join (byte w (uses_at + g)) u) p (λ x y. omega arith)
    go false = refl

pub origin_kept : (u : ℕ) (w : List ℕ) (e x : ℕ) → 9 * x + 9 ≤ uses_at → origin_of_line (referred u w e) x ≡ origin_of_line w x
unfolding origin_of_line referred counted_once
origin_kept u w e x k =
    ap origin_from (used_16 (counted_once w e) (be16 w (9 * e + 7)) u (9 * x) (omega arith)
    ∙ be16_store32_apart w (9 * e + 3) (count_at w (9 * e) + 1) (9 * x) (λ p q. omega arith))

pub count_after : (u : ℕ) (w : List ℕ) (e x : ℕ) → 9 * x + 9 ≤ uses_at → 9 * e + 9 ≤ length w → count_at (referred u w e) (9 * x) ≤ count_at w (9 * x) + 1
unfolding count_at referred counted_once
count_after u w e x k l = go (eqb x e) refl
  where
    n : ℕ
    n = be32 w (9 * e + 3) + 1

    kept : be32 (with_use (store32 w (9 * e + 3) n) (be16 w (9 * e + 7)) u) (9 * x + 3) ≡ be32 (store32 w (9 * e + 3) n) (9 * x + 3)
    kept = used_32 (store32 w (9 * e + 3) n) (be16 w (9 * e + 7)) u (9 * x + 3) (omega arith)

    go : (b : Bool) → eqb x e ≡ b → be32 (with_use (store32 w (9 * e + 3) n) (be16 w (9 * e + 7)) u) (9 * x + 3) ≤ be32 w (9 * x + 3) + 1
    go true q =
        let s : x ≡ e = eqb-true x e q in
        let v : be32 (store32 w (9 * e + 3) n) (9 * x + 3) ≡ be32 w (9 * x + 3) + 1 =
        rw s (be32_store32 w (9 * e + 3) n (omega arith)) in
        omega (arith, kept)
    go false q =
        let d : x ≡ e → ⊥ = eqb-false x e q in
        let v : be32 (store32 w (9 * e + 3) n) (9 * x + 3) ≡ be32 w (9 * x + 3) = be32_store32_apart w (9 * e + 3) n (9 * x + 3) (λ p r. d (omega arith)) in
        omega (arith, kept)

pub lines_origin_kept : (n : ℕ) → 9 * n ≤ uses_at → (u : ℕ) (w : List ℕ) (e : ℕ) (os : List Operand) → Below n os → lines_origin os (referred u w e) ≡ lines_origin os w
unfolding lines_origin
lines_origin_kept n k u w e [] b = refl
lines_origin_kept n k u w e (o ∷ os) b =
    let x : origin_of_line (referred u w e) o.target ≡ origin_of_line w o.target = origin_kept u w e o.target (omega (arith, b.0)) in
    let y : lines_origin os (referred u w e) ≡ lines_origin os w = lines_origin_kept n k u w e os b.1 in
    cc

-- the first origin is the definitions'
pub lines_origin_is : (h : Shape) (w : List ℕ) (os : List Operand) → Below h.known os → lines_origin os w ≡ first_origin os (viewed h w)
unfolding lines_origin first_origin
lines_origin_is h w [] b = refl
lines_origin_is h w (o ∷ os) b =
    let x : origin_of_line w o.target ≡ (known_of (viewed h w) o.target).origin = sym (at_origin h w o.target b.0) in
    let y : lines_origin os w ≡ first_origin os (viewed h w) = lines_origin_is h w os b.1 in
    ap (λ z. or_else z (lines_origin os w)) x ∙ ap (or_else (known_of (viewed h w) o.target).origin) y

-- counts that are within k leave room for more
pub room_left : (h : Shape) (w : List ℕ) (k : ℕ) → CountsWithin k (viewed h w) → (x : ℕ) → x < h.expressions → count_at w (9 * x) ≤ k
unfolding CountsWithin
room_left h w k c x p = omega (arith, c x, at_count h w x p)
