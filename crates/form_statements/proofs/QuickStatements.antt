-- A statement that the quick tests accept passes every check of 01, 2.7.
use Prim.Native.Nat.{ℕ, zero, suc, ◌+◌, ◌≤◌, ◌<◌}
use native.Mathlib.Omega.{arith}
use mathlib.Core.Path.{◌≡◌, refl, sym, ap, ◌∙◌}
use mathlib.Core.List.{List}
use mathlib.Core.Bool.{true, false, cond, ◌&&◌, not}
use lib.Dec.{ltb, leb, eqb}
use lib.ListN.{get_or}
use borrow.Author.Tests.{eqb-true, ltb-true, lt-leb, le-leb, le-ltb, eq-eqb, ne_eqb, eqb-false}
use Rattle.definitions.specs.Bytes.{range}
use Rattle.definitions.specs.Limits.{version_1}
use Rattle.definitions.specs.Module as file
use Rattle.definitions.specs.Checks.{fine, first, any}
use Rattle.definitions.specs.Roles as roles
use Rattle.definitions.specs.Form as checks
use Rattle.definitions.specs.Form.{last_around, owner, owner_end}
use Rattle.module.specs.declared.Sheet.{Sheet}
use Rattle.module.specs.Sheets.{ValidSheet}
use Rattle.module.proofs.Places.{bounds}
use Rattle.form_records.proofs.CheckLists.{by_bool, and_both, and_neither, pass, pass_last}
use Rattle.form_records.proofs.OperandScans.{any_none_below}
use Rattle.form_statements.specs.Context.{ValidArgumentCounts, ValidQuickContext}
use Rattle.form_statements.specs.Quick.{ValidPart, ValidUses, ValidUnderOwner}
use Rattle.form_statements.proofs.StatementsAround.{last_holds}
use Rattle.form_statements.proofs.HolderKinds.{leaf_no_arm}

-- one that is as its kind and its owner want it, and whose end is
passes_all : (m : List ℕ) (s : Sheet) (t kind o : ℕ) → ValidQuickContext m s t kind o → t < file.s_end m s.function t
    → file.s_end m s.function t ≤ owner_end m s.function t
    → (not (checks.holds_others (file.s_kind m s.function t)) && not (eqb (file.s_end m s.function t) (t + 1))) ≡ false
    → ValidUnderOwner m s.function t o → first (checks.statement_form version_1 m s.function t) ≡ fine tt
unfolding checks.statement_form
passes_all m s t kind o h after within alone w =
    let f = s.function in
    let u = w.uses in
    let ok = h.owner_kind_is in
    pass _ _ _ (le-ltb 11 (file.s_kind m f t) (omega (arith, h.kind_is, h.kind_known)))
    ∙ (pass _ _ _ (ap not w.sub_fits)
    ∙ (pass _ _ _ (ap not u.count_fits)
    ∙ (pass _ _ _ u.number_used
    ∙ (pass _ _ _ u.first_used
    ∙ (pass _ _ _ (and_neither (checks.s_in_pool m f t) u.none_absent)
    ∙ (pass _ _ _ (lt-leb _ _ after)
    ∙ (pass _ _ _ (le-ltb _ _ within)
    ∙ (pass _ _ _ alone
    ∙ (pass _ _ _ (ap (checks.misowned (file.s_kind m f t)) (sym ok) ∙ w.owned)
    ∙ (pass _ _ _ (ap (λ x. eqb (file.s_sub m f t) 1 && not (eqb x 9)) (sym ok) ∙ w.falls)
    ∙ (pass _ _ _ (ap not u.in_pool)
    ∙ (pass _ _ _ u.none_unknown
    ∙ (pass _ _ _ u.range_fits
    ∙ (pass _ _ _ u.callee_lower
    ∙ (pass _ _ _ (le-ltb _ _ h.shallow)
    ∙ pass_last _ _ u.arguments_agree)))))))))))))))

-- any but an Arm, whose sub is zero and whose owner holds no arms
pub plain_under_owner : (m : List ℕ) (f t o : ℕ) → eqb (file.s_kind m f t) 11 ≡ false → file.s_sub m f t ≡ 0 → checks.holds_arms o ≡ false → ValidUses m f t
    → ValidUnderOwner m f t o
unfolding roles.s_has_sub checks.misowned
plain_under_owner m f t o no_arm none free w = record { sub_fits = rw (no_arm, none); owned = rw no_arm free; falls = rw none; uses = w }

-- an owner ends past what it holds
owner_later : (m : List ℕ) (f t : ℕ) → t < file.statements m f → t < owner_end m f t
unfolding owner owner_end
owner_later m f t h = go (last_around m f t t) refl
  where
    go : (w : ℕ) → last_around m f t t ≡ w → t < owner_end m f t
    go zero e = rw (e, owner_end) h
    go (suc o) e = rw (e, owner_end) (last_holds m f t t o e).1

-- one that holds no others
pub leaf_passes : (m : List ℕ) (s : Sheet) (t kind o : ℕ) → ValidQuickContext m s t kind o → checks.holds_others kind ≡ false
    → file.s_sub m s.function t ≡ 0 → file.s_end m s.function t ≡ t + 1 → checks.holds_arms o ≡ false
    → ValidUses m s.function t → first (checks.statement_form version_1 m s.function t) ≡ fine tt
leaf_passes m s t kind o h leaf none ends free w =
    let f = s.function in
    let later = owner_later m f t (omega (arith, h.there, (bounds m s h.sheet_stands).laid.statements_are)) in
    passes_all m s t kind o h (omega arith) (omega arith) (and_neither (not (checks.holds_others (file.s_kind m f t))) (ap not (eq-eqb _ _ ends)))
    (plain_under_owner m f t o (leaf_no_arm (file.s_kind m f t) (ap checks.holds_others (sym h.kind_is) ∙ leaf)) none free w)

-- one that holds others, or may
pub holder_passes : (m : List ℕ) (s : Sheet) (t kind o end bound : ℕ) → ValidQuickContext m s t kind o → checks.holds_others kind ≡ true → end ≡ file.s_end m s.function t → t < end
    → bound ≡ owner_end m s.function t → end ≤ bound → ValidUnderOwner m s.function t o → first (checks.statement_form version_1 m s.function t) ≡ fine tt
holder_passes m s t kind o end bound h holds e after b within w =
    passes_all m s t kind o h (omega arith) (omega arith) (rw (ap checks.holds_others (sym h.kind_is) ∙ holds)) w

-- an Emit's range
pub emit_uses : (m : List ℕ) (s : Sheet) (t : ℕ) → ValidSheet m s → file.s_kind m s.function t ≡ 0 → file.s_number m s.function t ≤ file.s_first m s.function t
    → file.s_first m s.function t ≤ s.expressions → file.s_count m s.function t ≡ 0 → ValidUses m s.function t
unfolding roles.s_takes roles.s_has_number checks.s_in_pool checks.s_some_absent checks.s_some_unknown any range
emit_uses m s t h k le small none =
    let f = s.function in
    let upward : ltb (file.s_first m f t) (file.s_number m f t) ≡ false = le-ltb (file.s_first m f t) (file.s_number m f t) le in
    let inside : ltb (file.expressions m f) (file.s_first m f t) ≡ false = le-ltb (file.expressions m f) (file.s_first m f t) (omega (arith, (bounds m s h).laid.expressions_are)) in
    record {
      count_fits = rw (k, none);
      number_used = rw k;
      first_used = rw k;
      in_pool = rw none;
      none_absent = rw none;
      none_unknown = rw none;
      range_fits = rw (k, upward, inside);
      callee_lower = rw k;
      arguments_agree = rw k;
    }

-- what a statement's number names, if anything
pub record ValidNumber (m : List ℕ) (f k n c : ℕ) : Type 0 where
  pub used : (not (roles.s_has_number k) && ltb 0 n) ≡ false
  pub lower : (eqb k 6 && leb f n) ≡ false
  pub agree : (eqb k 6 && not (eqb c (file.arguments m n))) ≡ false

pub names_none : (m : List ℕ) (f k n c : ℕ) → (k ≡ 6 → ⊥) → n ≡ 0 → ValidNumber m f k n c
names_none m f k n c ne z = record {
  used = and_neither (not (roles.s_has_number k)) (le-ltb 0 n (omega arith));
  lower = rw (ne_eqb k 6 ne);
  agree = rw (ne_eqb k 6 ne);
}

names_callee : (m : List ℕ) (f k n c : ℕ) → k ≡ 6 → n < f → file.arguments m n ≡ c → ValidNumber m f k n c
unfolding roles.s_has_number
names_callee m f k n c q lt same = record {
  used = rw q;
  lower = and_neither (eqb k 6) (lt-leb f n lt);
  agree = and_neither (eqb k 6) (ap not (eq-eqb c (file.arguments m n) (sym same)));
}

pub names_right : (m : List ℕ) (f k n c : ℕ) (counts : List ℕ) → ValidArgumentCounts m f counts → cond (eqb k 6) (ltb n f && eqb c (get_or counts n 0)) (eqb n 0) ≡ true
    → ValidNumber m f k n c
names_right m f k n c counts h e =
    by_bool (eqb k 6)
    (λ q.
    let two = and_both (ltb n f) (eqb c (get_or counts n 0)) (rw q at e) in
    let lt = ltb-true n f two.0 in
    names_callee m f k n c (eqb-true k 6 q) lt (sym (h.counts_are n lt) ∙ sym (eqb-true c (get_or counts n 0) two.1)))
    (λ q. names_none m f k n c (eqb-false k 6 q) (eqb-true n 0 (rw q at e)))

-- the operands of a part, one by one
pub pool_none : (m : List ℕ) (f i c operands expressions : ℕ) → c ≡ 0 → eqb i 0 ≡ true → ValidPart m f i c operands expressions
pool_none m f i c operands expressions z e = record {
  none_first = λ _. eqb-true i 0 e;
  within = rw (eq-eqb c 0 z);
  each_known = λ j lt. absurd (omega arith);
}

pub pool_all : (m : List ℕ) (f i c operands expressions : ℕ) → (c ≡ 0 → ⊥) → i + c ≤ operands → ((k : ℕ) → k < c → file.pooled m f (i + k) < expressions)
    → ValidPart m f i c operands expressions
pool_all m f i c operands expressions ne inside all = record {
  none_first = λ z. absurd (ne z);
  within = rw (ne_eqb c 0 ne, le-leb (i + c) operands inside);
  each_known = all;
}

-- any other's operands and number
pub other_uses : (m : List ℕ) (s : Sheet) (t : ℕ) → ValidSheet m s → (file.s_kind m s.function t ≡ 0 → ⊥)
    → roles.s_takes (file.s_kind m s.function t) (file.s_count m s.function t) ≡ true
    → ValidNumber m s.function (file.s_kind m s.function t) (file.s_number m s.function t) (file.s_count m s.function t)
    → ValidPart m s.function (file.s_first m s.function t) (file.s_count m s.function t) s.operands s.expressions
    → ValidUses m s.function t
unfolding checks.s_in_pool checks.s_some_absent checks.s_some_unknown file.s_operand file.absent
other_uses m s t h pos takes name pool =
    let f = s.function in
    let l = bounds m s h in
    let no_emit : eqb (file.s_kind m f t) 0 ≡ false = ne_eqb (file.s_kind m f t) 0 pos in
    record {
      count_fits = takes;
      number_used = name.used;
      first_used = rw no_emit (by_bool (eqb (file.s_count m f t) 0)
          (λ e. rw e (le-ltb 0 (file.s_first m f t) (omega (arith, pool.none_first (eqb-true (file.s_count m f t) 0 e)))))
          (λ e. rw e));
      in_pool = rw (← l.laid.operands_are) pool.within;
      none_absent = any_none_below _ (file.s_count m f t) (λ j lt. ne_eqb (file.pooled m f (file.s_first m f t + j)) 65535 (λ e. (let x = pool.each_known j lt in omega (arith, l.few_expressions))));
      none_unknown = any_none_below _ (file.s_count m f t) (λ j lt. lt-leb (file.expressions m f) (file.pooled m f (file.s_first m f t + j)) (let x = pool.each_known j lt in omega (arith, l.laid.expressions_are)));
      range_fits = rw no_emit;
      callee_lower = name.lower;
      arguments_agree = name.agree;
    }

-- an Arm
pub arm_under_owner : (m : List ℕ) (s : Sheet) (t o : ℕ) → ValidSheet m s → file.s_kind m s.function t ≡ 11 → checks.holds_arms o ≡ true
    → roles.s_has_sub 11 (file.s_sub m s.function t) ≡ true → (eqb (file.s_sub m s.function t) 1 && not (eqb o 9)) ≡ false
    → file.s_number m s.function t ≡ 0 → file.s_first m s.function t ≡ 0 → file.s_count m s.function t ≡ 0 → ValidUnderOwner m s.function t o
unfolding checks.misowned roles.s_takes
arm_under_owner m s t o h k arms has astray number first count =
    let f = s.function in
    record {
      sub_fits = rw k has;
      owned = rw (k, arms);
      falls = astray;
      uses = other_uses m s t h (λ e. omega arith) (rw (k, count)) (names_none m f _ _ _ (λ e. omega arith) number) (pool_none m f _ _ s.operands s.expressions count (eq-eqb _ 0 first));
    }
