-- What the form checks give, of a module that has passed them: each record its checks, by name.
use Prim.Native.Nat.{ℕ, ◌+◌, ◌≤◌, ◌<◌}
use native.Mathlib.Omega.{arith}
use mathlib.Core.List.{List}
use mathlib.Core.Path.{◌≡◌}
use mathlib.Core.Logic.{◌⊎◌, inl, inr}
use mathlib.Core.Bool.{true, false, ◌&&◌, ◌||◌, not}
use lib.Dec.{eqb, leb, ltb, lit<}
use lib.ListN.{length}
use borrow.Author.Tests.{leb-false, ltb-false, eqb-true, eq-eqb, not-false}
use Rattle.definitions.specs.Bytes.{range}
use Rattle.definitions.specs.Limits.{Limits}
use Rattle.definitions.specs.Module.{length_field, capabilities, globals, functions, space, sheet, sheet_length, parts_length, flag, argument_byte, arguments, expressions, operands, statements, initialisers, initialiser, named, named_at, kind, sub, number, first_operand, operand_count, operand, s_kind, s_sub, s_number, s_end, s_first, s_count, s_operand, absent}
use Rattle.definitions.specs.Checks.{fine, ◌⇒◌, first, for_each}
use Rattle.definitions.specs.Roles.{takes, has_sub, has_number, s_takes, s_has_sub, s_has_number}
use Rattle.definitions.specs.Form.{outer, module_counts, space_bytes, capability_code, space_code, left_over, sheet_header, expression_form, statement_form, arms_form, listed_form, argument_code, sheet_form, form, in_pool, some_misplaced, some_not_earlier, owner_end, owner_kind, holds_others, misowned, s_in_pool, s_some_absent, s_some_unknown, depth}
use Rattle.definitions.proofs.Fold.{bind_fine, each_at}
use Rattle.definitions.proofs.Passed.{passes, for_each_at, any_none, when_left, and_not}
use Rattle.definitions.proofs.Ranges.{range_to}

-- an expression's checks, each failed to hold
pub record ExpressionFormed (m : List ℕ) (f e : ℕ) : Type 0 where
  pub kind_known : ltb 18 (kind m f e) ≡ false
  pub sub_known : not (has_sub (kind m f e) (sub m f e)) ≡ false
  pub count_fits : not (takes (kind m f e) (operand_count m f e)) ≡ false
  pub number_idle : (not (has_number (kind m f e)) && ltb 0 (number m f e)) ≡ false
  pub first_idle : (eqb (operand_count m f e) 0 && ltb 0 (first_operand m f e)) ≡ false
  pub none_misplaced : (in_pool m f e && some_misplaced m f e) ≡ false
  pub pooled : not (in_pool m f e) ≡ false
  pub all_earlier : some_not_earlier m f e ≡ false
  pub argument_there : (eqb (kind m f e) 1 && leb (arguments m f) (number m f e)) ≡ false
  pub global_there : (eqb (kind m f e) 2 && leb (globals m) (number m f e)) ≡ false
  pub callee_lower : (eqb (kind m f e) 4 && leb f (number m f e)) ≡ false

-- a statement's
pub record StatementFormed (L : Limits) (m : List ℕ) (f t : ℕ) : Type 0 where
  pub kind_known : ltb 11 (s_kind m f t) ≡ false
  pub sub_known : not (s_has_sub (s_kind m f t) (s_sub m f t)) ≡ false
  pub count_fits : not (s_takes (s_kind m f t) (s_count m f t)) ≡ false
  pub number_idle : (not (s_has_number (s_kind m f t)) && ltb 0 (s_number m f t)) ≡ false
  pub first_idle : (not (eqb (s_kind m f t) 0) && eqb (s_count m f t) 0 && ltb 0 (s_first m f t)) ≡ false
  pub none_absent : (s_in_pool m f t && s_some_absent m f t) ≡ false
  pub end_past : leb (s_end m f t) t ≡ false
  pub end_in_owner : ltb (owner_end m f t) (s_end m f t) ≡ false
  pub leaf_short : (not (holds_others (s_kind m f t)) && not (eqb (s_end m f t) (t + 1))) ≡ false
  pub well_owned : misowned (s_kind m f t) (owner_kind m f t) ≡ false
  pub falls_in_switch : (eqb (s_sub m f t) 1 && not (eqb (owner_kind m f t) 9)) ≡ false
  pub pooled : not (s_in_pool m f t) ≡ false
  pub all_known : s_some_unknown m f t ≡ false
  pub emit_in_range : (eqb (s_kind m f t) 0 && (ltb (s_first m f t) (s_number m f t) || ltb (expressions m f) (s_first m f t))) ≡ false
  pub callee_lower : (eqb (s_kind m f t) 6 && leb f (s_number m f t)) ≡ false
  pub not_deep : ltb L.depth (depth m f t) ≡ false
  pub arguments_fit : (eqb (s_kind m f t) 6 && not (eqb (s_count m f t) (arguments m (s_number m f t)))) ≡ false

expression_formed : (m : List ℕ) (f e : ℕ) {u : Unit {0}} → first (expression_form m f e) ≡ fine u → ExpressionFormed m f e
unfolding expression_form ◌⇒◌
expression_formed m f e h =
    let p = passes (expression_form m f e) h in
    record {
      kind_known = p 0 (lit< tt);
      sub_known = p 1 (lit< tt);
      count_fits = p 2 (lit< tt);
      number_idle = p 3 (lit< tt);
      first_idle = p 4 (lit< tt);
      none_misplaced = p 5 (lit< tt);
      pooled = p 6 (lit< tt);
      all_earlier = p 7 (lit< tt);
      argument_there = p 8 (lit< tt);
      global_there = p 9 (lit< tt);
      callee_lower = p 10 (lit< tt);
    }

statement_formed : (L : Limits) (m : List ℕ) (f t : ℕ) {u : Unit {0}} → first (statement_form L m f t) ≡ fine u → StatementFormed L m f t
unfolding statement_form ◌⇒◌
statement_formed L m f t h =
    let p = passes (statement_form L m f t) h in
    record {
      kind_known = p 0 (lit< tt);
      sub_known = p 1 (lit< tt);
      count_fits = p 2 (lit< tt);
      number_idle = p 3 (lit< tt);
      first_idle = p 4 (lit< tt);
      none_absent = p 5 (lit< tt);
      end_past = p 6 (lit< tt);
      end_in_owner = p 7 (lit< tt);
      leaf_short = p 8 (lit< tt);
      well_owned = p 9 (lit< tt);
      falls_in_switch = p 10 (lit< tt);
      pooled = p 11 (lit< tt);
      all_known = p 12 (lit< tt);
      emit_in_range = p 13 (lit< tt);
      callee_lower = p 14 (lit< tt);
      not_deep = p 15 (lit< tt);
      arguments_fit = p 16 (lit< tt);
    }

-- a sheet, part by part
pub record SheetFormed (L : Limits) (m : List ℕ) (f : ℕ) : Type 0 where
  pub header_there : sheet m f + 17 ≤ length m
  pub few_arguments : arguments m f ≤ L.arguments
  pub few_expressions : expressions m f ≤ L.expressions
  pub few_operands : operands m f ≤ L.operands
  pub few_statements : statements m f ≤ L.statements
  pub few_initialisers : initialisers m f ≤ L.initialisers
  pub few_named : named m f ≤ L.named
  pub length_right : sheet_length m f ≡ parts_length m f
  pub all_there : sheet m f + 4 + sheet_length m f ≤ length m
  pub flag_known : flag m f ≤ 1
  pub each_argument : (a : ℕ) → a < arguments m f → argument_byte m f a ≤ 3
  pub each_expression : (e : ℕ) → e < expressions m f → ExpressionFormed m f e
  pub each_statement : (t : ℕ) → t < statements m f → StatementFormed L m f t
  pub each_owner : (t : ℕ) → t < statements m f → (u : Unit {0}) × (first (arms_form m f t) ≡ fine u)
  pub each_initialiser : (i : ℕ) → i < initialisers m f → initialiser m f i < expressions m f
  pub each_named : (i : ℕ) → i < named m f → named_at m f i < expressions m f

listed : (m : List ℕ) (f : ℕ) (where_at : ℕ → ℕ) (n : ℕ) {u : Unit {0}} → for_each (listed_form m f where_at) (range 0 n) ≡ fine u → (i : ℕ) → i < n → where_at i < expressions m f
unfolding listed_form ◌⇒◌
listed m f where_at n h i lt =
    let p = for_each_at (listed_form m f where_at) (range 0 n) h i (range_to 0 _ i (omega arith) (omega arith)) in
    leb-false _ _ (passes (listed_form m f where_at i) p.1 1 (lit< tt))

sheet_formed : (L : Limits) (m : List ℕ) (f : ℕ) {u v : Unit {0}} → sheet_form L m f u ≡ fine v → SheetFormed L m f
unfolding sheet_form sheet_header argument_code ◌⇒◌
sheet_formed L m f h =
    let a = bind_fine _ _ h in
    let b = bind_fine _ _ a.2 in
    let c = bind_fine _ _ b.2 in
    let d = bind_fine _ _ c.2 in
    let e = bind_fine _ _ d.2 in
    let g = bind_fine _ _ e.2 in
    let p = passes (sheet_header L m f) a.1 in
    record {
      header_there = ltb-false _ _ (p 0 (lit< tt));
      few_arguments = ltb-false _ _ (p 1 (lit< tt));
      few_expressions = ltb-false _ _ (p 2 (lit< tt));
      few_operands = ltb-false _ _ (p 3 (lit< tt));
      few_statements = ltb-false _ _ (p 4 (lit< tt));
      few_initialisers = ltb-false _ _ (p 5 (lit< tt));
      few_named = ltb-false _ _ (p 6 (lit< tt));
      length_right = eqb-true _ _ (not-false _ (p 7 (lit< tt)));
      all_there = ltb-false _ _ (p 8 (lit< tt));
      flag_known = ltb-false _ _ (p 9 (lit< tt));
      each_argument = λ x lt. ltb-false _ _ (passes (argument_code m f x) (for_each_at (argument_code m f) _ b.1 x (range_to 0 _ x (omega arith) (omega arith))).1 0 (lit< tt));
      each_expression = λ x lt. expression_formed m f x (for_each_at (expression_form m f) _ c.1 x (range_to 0 _ x (omega arith) (omega arith))).1;
      each_statement = λ x lt. statement_formed L m f x (for_each_at (statement_form L m f) _ d.1 x (range_to 0 _ x (omega arith) (omega arith))).1;
      each_owner = λ x lt. for_each_at (arms_form m f) _ e.1 x (range_to 0 _ x (omega arith) (omega arith));
      each_initialiser = listed m f (initialiser m f) (initialisers m f) g.1;
      each_named = listed m f (named_at m f) (named m f) g.2;
    }

-- the module
pub record Formed (L : Limits) (m : List ℕ) : Type 0 where
  pub header_there : 10 ≤ length m
  pub short_enough : length m ≤ L.file
  pub length_right : length_field m + 4 ≡ length m
  pub few_globals : globals m ≤ L.globals
  pub few_functions : functions m ≤ L.functions
  pub spaces_there : 10 + globals m ≤ length m
  pub capabilities_known : capabilities m ≤ 15
  pub each_space : (g : ℕ) → g < globals m → space m g ≤ 10
  pub each_sheet : (f : ℕ) → f < functions m → SheetFormed L m f
  pub nothing_left : length m ≤ sheet m (functions m)

pub formed : (L : Limits) (m : List ℕ) {u : Unit {0}} → form L m ≡ fine u → Formed L m
unfolding form outer module_counts space_bytes capability_code space_code left_over ◌⇒◌
formed L m h =
    let a = bind_fine _ _ h in
    let b = bind_fine _ _ a.2 in
    let c = bind_fine _ _ b.2 in
    let d = bind_fine _ _ c.2 in
    let e = bind_fine _ _ d.2 in
    let g = bind_fine _ _ e.2 in
    let o = passes (outer L m) a.1 in
    record {
      header_there = ltb-false _ _ (o 0 (lit< tt));
      short_enough = ltb-false _ _ (o 1 (lit< tt));
      length_right = eqb-true _ _ (not-false _ (o 2 (lit< tt)));
      few_globals = ltb-false _ _ (passes (module_counts L m) b.1 0 (lit< tt));
      few_functions = ltb-false _ _ (passes (module_counts L m) b.1 1 (lit< tt));
      spaces_there = ltb-false _ _ (passes (space_bytes m) c.1 0 (lit< tt));
      capabilities_known = ltb-false _ _ (passes (capability_code m) d.1 0 (lit< tt));
      each_space = λ x lt. ltb-false _ _ (passes (space_code m x) (for_each_at (space_code m) _ e.1 x (range_to 0 _ x (omega arith) (omega arith))).1 0 (lit< tt));
      each_sheet = λ f lt.
          let p = each_at (sheet_form L m) (range 0 (functions m)) tt g.0 g.1 f (range_to 0 _ f (omega arith) (omega arith)) in
          sheet_formed L m f p.2;
      nothing_left = ltb-false _ _ (passes (left_over m) g.2 0 (lit< tt));
    }

-- what the checks say, where a rule needs it
pub call_lower : (L : Limits) (m : List ℕ) (f t : ℕ) → StatementFormed L m f t → s_kind m f t ≡ 6 → s_number m f t < f
call_lower L m f t h k = leb-false f (s_number m f t) (when_left (eqb (s_kind m f t) 6) (leb f (s_number m f t)) (eq-eqb _ _ k) h.callee_lower)

pub global_in : (m : List ℕ) (f e : ℕ) → ExpressionFormed m f e → kind m f e ≡ 2 → number m f e < globals m
global_in m f e h k = leb-false (globals m) (number m f e) (when_left (eqb (kind m f e) 2) (leb (globals m) (number m f e)) (eq-eqb _ _ k) h.global_there)

pub operand_in : (m : List ℕ) (f e : ℕ) → ExpressionFormed m f e → (j : ℕ) → j < operand_count m f e → (operand m f e j ≡ absent) ⊎ (operand m f e j < e)
unfolding some_not_earlier
operand_in m f e h j lt = go (and_not _ _ (any_none _ _ h.all_earlier j (range_to 0 _ j (omega arith) (omega arith))))
  where
    go : (eqb (operand m f e j) absent ≡ true) ⊎ (leb e (operand m f e j) ≡ false) → (operand m f e j ≡ absent) ⊎ (operand m f e j < e)
    go (inl a) = inl (eqb-true _ _ a)
    go (inr a) = inr (leb-false _ _ a)

pub s_operand_in : (L : Limits) (m : List ℕ) (f t : ℕ) → StatementFormed L m f t → (j : ℕ) → j < s_count m f t → s_operand m f t j < expressions m f
unfolding s_some_unknown
s_operand_in L m f t h j lt = leb-false _ _ (any_none _ _ h.all_known j (range_to 0 _ j (omega arith) (omega arith)))
