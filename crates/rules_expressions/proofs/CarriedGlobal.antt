-- What an expression carries (01, 3.3 and 3.4): as the code asks for it, and as the definitions fold it over the
-- operands.
use Prim.Native.Nat.{ℕ, zero, suc, ◌+◌, ◌-◌, ◌≤◌, ◌<◌}
use native.Mathlib.Omega.{arith}
use mathlib.Core.Logic.{◌≢◌}
use mathlib.Core.Bool.{Bool, true, false, cond, ◌||◌}
use mathlib.Core.Option.{Option, none, some}
use mathlib.Core.Path.{◌≡◌, refl, ap, ◌∙◌, sym}
use mathlib.Core.List.{List, [], ◌∷◌}
use borrow.Author.Tests.{eq-eqb, ne_eqb, eqb-true, eqb-false}
use lib.Dec.{eqb}
use Rattle.definitions.specs.Bytes.{range}
use Rattle.definitions.specs.Module.{absent, kind, sub, operand, operand_count}
use Rattle.definitions.specs.Checks.{through}
use Rattle.definitions.specs.Roles.{role, use_of}
use Rattle.definitions.specs.State.{State, Operand, present, known_of, handed_by, carry, carried, operand_at, operands_of}
use Rattle.definitions.specs.Report.{global_from}
use Rattle.definitions.specs.Expressions.{own_global}
use Rattle.definitions.proofs.Loops.{present_left}
use Rattle.vocabulary.proofs.Origins.{some_global}
use Rattle.module.specs.declared.Sheet.{Sheet}
use Rattle.module.specs.declared.Expression.{Expression}
use Rattle.module.specs.Sheets.{IsExpression}
use Rattle.memory.specs.View.{Shape, viewed}
use Rattle.memory.specs.Changes.{assignable_of_line}
use Rattle.memory.proofs.View.{at_assignable}
use Rattle.rules_expressions.specs.Facts.{FormedExpression}
use Rattle.rules_expressions.proofs.FromForm.{kind_here, global_small, few, base_earlier, base_counts}
use Rattle.rules_expressions.proofs.Roles.{later_is, base_is, hands_other}

-- ---- what the code asks for

-- handed to a record that starts with none
carry_none : (g : Option ℕ) → carry g none ≡ g
unfolding carry
carry_none none = refl
carry_none (some g) = refl

-- the kinds whose base is carried, as a range
base_kind : (k : ℕ) → 5 ≤ k → k < 7 → (eqb k 5 || eqb k 6) ≡ true
base_kind k a b = go (eqb k 5) refl
  where
    go : (c : Bool) → eqb k 5 ≡ c → (c || eqb k 6) ≡ true
    go true e = refl
    go false e = let n : k ≢ 5 = eqb-false k 5 e in eq-eqb k 6 (omega arith)

pub base_handed : (w : List ℕ) (k b y : ℕ) (g : Option ℕ) → 5 ≤ k → k < 7 → g ≡ assignable_of_line w b → b ≡ y → g ≡ cond (eqb k 5 || eqb k 6) (assignable_of_line w y) none
base_handed w k b y g h l p q = rw (base_kind k h l, p, q)

pub none_handed : (k : ℕ) (g h : Option ℕ) → k ≢ 5 → k ≢ 6 → h ≡ none → h ≡ cond (eqb k 5 || eqb k 6) g none
none_handed k g h a b q = rw (ne_eqb k 5 a, ne_eqb k 6 b) q

-- what a kind starts with
pub own_number : (k n : ℕ) (g : Option ℕ) → k ≡ 2 → g ≡ global_from n → g ≡ cond (eqb k 2) (global_from n) none
own_number k n g h q = rw h q

pub own_nothing : (k n : ℕ) (g : Option ℕ) → k ≢ 2 → g ≡ none → g ≡ cond (eqb k 2) (global_from n) none
own_nothing k n g h q = rw (ne_eqb k 2 h) q

pub own_none : (m : List ℕ) (f e : ℕ) (x : Expression) → IsExpression m f e x → x.kind ≢ 2 → none ≡ own_global m f e
unfolding own_global
own_none m f e x is h = rw (ne_eqb (kind m f e) 2 (λ q. h (is.kind_is ∙ q)))

-- ---- the definitions' fold

-- operands that hand nothing on
abbrev HandsNone : List Operand → Type 0
HandsNone [] = Unit {0}
HandsNone (o ∷ os) = ((g : Option ℕ) → handed_by o.does g ≡ none) × HandsNone os

fold_none : (os : List Operand) (s : State) (own : Option ℕ) → HandsNone os → carried os s own ≡ own
unfolding carried through carry
fold_none [] s own h = refl
fold_none (o ∷ os) s own h = ap (λ g. carried os s (carry g own)) (h.0 (known_of s o.target).assignable) ∙ fold_none os s own h.1

present_none : (op : ℕ → Operand) (a n : ℕ) → ((j : ℕ) → a ≤ j → (g : Option ℕ) → handed_by (op j).does g ≡ none) → HandsNone (present op (range a n))
unfolding present range
present_none op a zero h = tt
present_none op a (suc n) h = go (eqb (op a).target absent) refl (present_none op (suc a) n (λ j k. h j (omega arith)))
  where
    go : (b : Bool) → eqb (op a).target absent ≡ b → HandsNone (present op (range (suc a) n)) → HandsNone (present op (a ∷ range (suc a) n))
    go true e rest = rw (e, present) rest
    go false e rest = rw (e, present) (h a (omega arith), rest)

later_hands : (k u j : ℕ) → j ≢ 0 → (g : Option ℕ) → handed_by (use_of (role k u j)) g ≡ none
unfolding handed_by
later_hands k u j n g = rw (later_is k u j n)

module _ (m : List ℕ) (f e : ℕ) (s : State) (own : Option ℕ) where
  -- where the first operand does not carry
  fold_own : kind m f e ≢ 5 → kind m f e ≢ 6 → carried (operands_of m f e) s own ≡ own
  unfolding operands_of operand_at
  fold_own a b = fold_none (operands_of m f e) s own (present_none (operand_at m f e) 0 (operand_count m f e) (λ j _ g. hands_other (kind m f e) (sub m f e) j a b g))

  -- where it does, and is there
  fold_first : 5 ≤ kind m f e → kind m f e < 7 → 0 < operand_count m f e → operand m f e 0 ≢ absent
      → carried (operands_of m f e) s own ≡ carry (known_of s (operand m f e 0)).assignable own
  unfolding operands_of operand_at carried through handed_by
  fold_first a b k p =
      let op = operand_at m f e in
      let n = operand_count m f e in
      let z : n - 0 ≡ n = omega arith in
      let rest = present op (range (0 + 1) (n - (0 + 1))) in
      let hands : handed_by (use_of (role (kind m f e) (sub m f e) 0)) (known_of s (operand m f e 0)).assignable ≡ (known_of s (operand m f e 0)).assignable =
      rw (base_is (kind m f e) (sub m f e) 0 refl a b) in
      let none_later : HandsNone rest = present_none op (0 + 1) (n - (0 + 1)) (λ j q g. later_hands (kind m f e) (sub m f e) j (λ c. omega arith) g) in
      ap (λ i. carried (present op (range 0 i)) s own) (sym z)
      ∙ ap (λ os. carried os s own) (present_left op 0 n k ∙ ap (λ c. cond c rest (op 0 ∷ rest)) (ne_eqb (operand m f e 0) absent p))
      ∙ ap (λ g. carried rest s (carry g own)) hands
      ∙ fold_none rest s (carry (known_of s (operand m f e 0)).assignable own) none_later

-- ---- the code's answer against the definitions
module _ (m : List ℕ) (s : Sheet) (e : ℕ) (x : Expression) (fx : FormedExpression m s e x) where
  -- a leaf carries what it starts with
  pub own_is : cond (eqb x.kind 2) (global_from x.number) none ≡ own_global m s.function e
  unfolding own_global
  own_is = go (eqb x.kind 2) refl
    where
      go : (t : Bool) → eqb x.kind 2 ≡ t → cond t (global_from x.number) none ≡ own_global m s.function e
      go true q =
          let k : x.kind ≡ 2 = eqb-true x.kind 2 q in
          some_global x.number (λ z. omega (arith, global_small m s e x fx k)) ∙ ap some fx.is.number_is ∙ rw (kind_here m s e x fx 2 k)
      go false q = own_none m s.function e x fx.is (eqb-false x.kind 2 q)

  pub leaf_carries : (z : State) → x.kind ≤ 4 → carried (operands_of m s.function e) z (own_global m s.function e) ≡ own_global m s.function e
  leaf_carries z k =
      fold_own m s.function e z (own_global m s.function e) (λ q. omega (arith, fx.is.kind_is)) (λ q. omega (arith, fx.is.kind_is))

  -- what is handed on is the base's global or none
  module _ (w : List ℕ) (h : Shape) (q : h.known ≡ e) (own : Option ℕ) where
    carried_base : 5 ≤ x.kind → x.kind < 7 → carried (operands_of m s.function e) (viewed h w) own ≡ carry (assignable_of_line w (operand m s.function e 0)) own
    unfolding absent
    carried_base a b =
        let k = base_earlier m s e x fx a b in
        fold_first m s.function e (viewed h w) own (omega (arith, fx.is.kind_is)) (omega (arith, fx.is.kind_is)) (base_counts m s e x fx a b) (λ z. omega (arith, few m s e x fx))
        ∙ ap (λ g. carry g own) (at_assignable h w (operand m s.function e 0) (omega arith))

    carried_is : carried (operands_of m s.function e) (viewed h w) own ≡ carry (cond (eqb x.kind 5 || eqb x.kind 6) (assignable_of_line w (operand m s.function e 0)) none) own
    unfolding carry
    carried_is = go (eqb x.kind 5) refl (eqb x.kind 6) refl
      where
        go : (a : Bool) → eqb x.kind 5 ≡ a → (b : Bool) → eqb x.kind 6 ≡ b
            → carried (operands_of m s.function e) (viewed h w) own ≡ carry (cond (a || b) (assignable_of_line w (operand m s.function e 0)) none) own
        go true u b v = let k : x.kind ≡ 5 = eqb-true x.kind 5 u in carried_base (omega arith) (omega arith)
        go false u true v = let k : x.kind ≡ 6 = eqb-true x.kind 6 v in carried_base (omega arith) (omega arith)
        go false u false v =
            fold_own m s.function e (viewed h w) own (λ z. eqb-false x.kind 5 u (fx.is.kind_is ∙ z)) (λ z. eqb-false x.kind 6 v (fx.is.kind_is ∙ z))

    -- and it starts with none
    pub carries : (g : Option ℕ) → g ≡ cond (eqb x.kind 5 || eqb x.kind 6) (assignable_of_line w (operand m s.function e 0)) none → none ≡ own
        → g ≡ carried (operands_of m s.function e) (viewed h w) own
    carries g p o =
        p ∙ sym (carry_none (cond (eqb x.kind 5 || eqb x.kind 6) (assignable_of_line w (operand m s.function e 0)) none))
        ∙ ap (carry (cond (eqb x.kind 5 || eqb x.kind 6) (assignable_of_line w (operand m s.function e 0)) none)) o ∙ sym carried_is
