-- 01, 2: form. The checks are made in the order in which they stand here, and the first that fails gives the refusal.
use Rattle.std.specs.Prelude.{ℕ, zero, suc, ◌+◌, List, [], ◌∷◌, Bool, cond, ◌&&◌, ◌||◌, not, ltb, leb, eqb, length}
use Rattle.definitions.specs.Bytes.{range}
use Rattle.definitions.specs.Limits.{Limits}
use Rattle.definitions.specs.Module.{length_field, version, capabilities, globals, functions, space, sheet, sheet_length, flag, arguments, expressions, operands, statements, initialisers, named, parts_length, argument_byte, kind, sub, number, first_operand, operand_count, operand, s_kind, s_sub, s_number, s_end, s_first, s_count, s_operand, initialiser, named_at, absent}
use Rattle.definitions.specs.Checks.{refusal, Checked, ◌>>=◌, Check, ◌⇒◌, first, each, for_each, any, count}
use Rattle.definitions.specs.Roles.{role, takes, has_sub, has_number, s_takes, s_has_sub, s_has_number, misplaced}

-- 2.1 Outer. 2 (0, 0): fewer than 10 bytes, more than 65,536 bytes, a length field that is not the file's length less 4, or a version
-- other than 1
unfoldable pub outer : Limits → List ℕ → List Check
outer L m =
    (ltb (length m) 10 ⇒ refusal 2 0 0)
    ∷ (ltb L.file (length m) ⇒ refusal 2 0 0)
    ∷ (not (eqb (length_field m + 4) (length m)) ⇒ refusal 2 0 0)
    ∷ (not (eqb (version m) L.version) ⇒ refusal 2 0 0)
    ∷ []

-- 2.2 Counts of the module. 3 (0, 0): more than 256 globals, or more than 64 functions
unfoldable pub module_counts : Limits → List ℕ → List Check
module_counts L m =
    (ltb L.globals (globals m) ⇒ refusal 3 0 0)
    ∷ (ltb L.functions (functions m) ⇒ refusal 3 0 0)
    ∷ []

-- 2.3 Space bytes. 2 (0, 0) where the file ends before the last of them
unfoldable pub space_bytes : List ℕ → List Check
space_bytes m = (ltb (length m) (10 + globals m) ⇒ refusal 2 0 0) ∷ []

-- 2.4 Codes of the module. 4 (0, 0): a capability bit over 8
unfoldable pub capability_code : List ℕ → List Check
capability_code m = (ltb 15 (capabilities m) ⇒ refusal 4 0 0) ∷ []

-- 2.4 Then 4 (0, g) at the first global g whose space byte is over 10
unfoldable pub space_code : List ℕ → ℕ → List Check
space_code m g = (ltb 10 (space m g) ⇒ refusal 4 0 g) ∷ []

-- 2.5 Sheets. 1: 2 (f, 0), fewer than 17 bytes remain. 2: 3 (f, 0), one of the six counts is over its limit. 3: 2 (f, 0), the sheet's
-- length is not that of its parts, or the sheet passes the end of the file. 4: 4 (f, 0), a flag bit other than bit 0
unfoldable pub sheet_header : Limits → List ℕ → ℕ → List Check
sheet_header L m f =
    (ltb (length m) (sheet m f + 17) ⇒ refusal 2 f 0)
    ∷ (ltb L.arguments (arguments m f) ⇒ refusal 3 f 0)
    ∷ (ltb L.expressions (expressions m f) ⇒ refusal 3 f 0)
    ∷ (ltb L.operands (operands m f) ⇒ refusal 3 f 0)
    ∷ (ltb L.statements (statements m f) ⇒ refusal 3 f 0)
    ∷ (ltb L.initialisers (initialisers m f) ⇒ refusal 3 f 0)
    ∷ (ltb L.named (named m f) ⇒ refusal 3 f 0)
    ∷ (not (eqb (sheet_length m f) (parts_length m f)) ⇒ refusal 2 f 0)
    ∷ (ltb (length m) (sheet m f + 4 + sheet_length m f) ⇒ refusal 2 f 0)
    ∷ (ltb 1 (flag m f) ⇒ refusal 4 f 0)
    ∷ []

-- 2.5, 5: 4 (f, a) at the first argument byte a over 3
unfoldable pub argument_code : List ℕ → ℕ → ℕ → List Check
argument_code m f a = (ltb 3 (argument_byte m f a) ⇒ refusal 4 f a) ∷ []

-- 2.6 a pool part within the pool; some operand of it that its kind and sub don't want as it is; some present operand that is not an
-- earlier expression
unfoldable pub in_pool : List ℕ → ℕ → ℕ → Bool
in_pool m f e = leb (first_operand m f e + operand_count m f e) (operands m f)

unfoldable pub some_misplaced : List ℕ → ℕ → ℕ → Bool
some_misplaced m f e = any (λ j. misplaced (role (kind m f e) (sub m f e) j) (operand m f e j)) (range 0 (operand_count m f e))

unfoldable pub some_not_earlier : List ℕ → ℕ → ℕ → Bool
some_not_earlier m f e = any (λ j. leb e (operand m f e j) && not (eqb (operand m f e j) absent)) (range 0 (operand_count m f e))

-- 2.6 An expression e of f, in this order: 4, 5, 6
unfoldable pub expression_form : List ℕ → ℕ → ℕ → List Check
expression_form m f e =
    let k = kind m f e in
    let n = operand_count m f e in
    -- 4: kind over 18, or a sub that the kind doesn't have
    (ltb 18 k ⇒ refusal 4 f e)
    ∷ (not (has_sub k (sub m f e)) ⇒ refusal 4 f e)
    -- 5: an operand count that is not the kind's; a non-zero `number` or `first` that has no use; and, only where the pool part is in
    -- range, an operand that is absent where its kind and sub want it, or present where they want none
    ∷ (not (takes k n) ⇒ refusal 5 f e)
    ∷ (not (has_number k) && ltb 0 (number m f e) ⇒ refusal 5 f e)
    ∷ (eqb n 0 && ltb 0 (first_operand m f e) ⇒ refusal 5 f e)
    ∷ (in_pool m f e && some_misplaced m f e ⇒ refusal 5 f e)
    -- 6: a pool part that is not within the pool; a present operand that is not an earlier expression; `number` that names no argument
    -- of f (kind 1), no global (kind 2), or no lower function (kind 4)
    ∷ (not (in_pool m f e) ⇒ refusal 6 f e)
    ∷ (some_not_earlier m f e ⇒ refusal 6 f e)
    ∷ (eqb k 1 && leb (arguments m f) (number m f e) ⇒ refusal 6 f e)
    ∷ (eqb k 2 && leb (globals m) (number m f e) ⇒ refusal 6 f e)
    ∷ (eqb k 4 && leb f (number m f e) ⇒ refusal 6 f e)
    ∷ []

-- 2.8 t is inside s when s < t and t < end of s
unfoldable pub inside : List ℕ → ℕ → ℕ → ℕ → Bool
inside m f t s = ltb t (s_end m f s)

-- 2.8 the owner of t is the last s that t is inside of; counted from 1, so that 0 is none
unfoldable pub last_around : List ℕ → ℕ → ℕ → ℕ → ℕ
last_around m f t zero = 0
last_around m f t (suc s) = let r = last_around m f t s in cond (inside m f t s) (suc s) r

unfoldable pub owner : List ℕ → ℕ → ℕ → ℕ
owner m f t = last_around m f t t

-- the owner's kind, where what has no owner stands as in a Block; and its end, where it is the table's
unfoldable pub owner_kind : List ℕ → ℕ → ℕ → ℕ
owner_kind m f t = elim (owner m f t) [ zero ↦ 7 | suc s ↦ s_kind m f s ]

unfoldable pub owner_end : List ℕ → ℕ → ℕ → ℕ
owner_end m f t = elim (owner m f t) [ zero ↦ statements m f | suc s ↦ s_end m f s ]

-- 2.9 Depth of a statement is the number of statements that it is inside of
unfoldable pub depth : List ℕ → ℕ → ℕ → ℕ
depth m f t = count (inside m f t) (range 0 t)

-- 2.8 only Block, If, Switch, Loop and Arm hold others
unfoldable pub holds_others : ℕ → Bool
holds_others kind = leb 7 kind

-- 2.8 an If, a Switch or a Loop: they hold arms and nothing else
unfoldable pub holds_arms : ℕ → Bool
holds_arms kind = eqb kind 8 || eqb kind 9 || eqb kind 10

unfoldable pub misowned : ℕ → ℕ → Bool
misowned kind owner = cond (eqb kind 11) (not (holds_arms owner)) (holds_arms owner)

-- 2.7 a statement with count 0 has no pool part, so its part is always in range; some operand of it that is absent; some that is no
-- expression of f
unfoldable pub s_in_pool : List ℕ → ℕ → ℕ → Bool
s_in_pool m f t = eqb (s_count m f t) 0 || leb (s_first m f t + s_count m f t) (operands m f)

unfoldable pub s_some_absent : List ℕ → ℕ → ℕ → Bool
s_some_absent m f t = any (λ j. eqb (s_operand m f t j) absent) (range 0 (s_count m f t))

unfoldable pub s_some_unknown : List ℕ → ℕ → ℕ → Bool
s_some_unknown m f t = any (λ j. leb (expressions m f) (s_operand m f t j)) (range 0 (s_count m f t))

-- 2.7 A statement t of f, in this order: 4, 5, 6, 15, 10
unfoldable pub statement_form : Limits → List ℕ → ℕ → ℕ → List Check
statement_form L m f t =
    let k = s_kind m f t in
    let n = s_count m f t in
    -- 4: kind over 11, or a sub that the kind doesn't have
    (ltb 11 k ⇒ refusal 4 f t)
    ∷ (not (s_has_sub k (s_sub m f t)) ⇒ refusal 4 f t)
    -- 5: an operand count that is not the kind's; a non-zero `number` or `first` that has no use; where the pool part is in range, an
    -- absent operand
    ∷ (not (s_takes k n) ⇒ refusal 5 f t)
    ∷ (not (s_has_number k) && ltb 0 (s_number m f t) ⇒ refusal 5 f t)
    ∷ (not (eqb k 0) && eqb n 0 && ltb 0 (s_first m f t) ⇒ refusal 5 f t)
    ∷ (s_in_pool m f t && s_some_absent m f t ⇒ refusal 5 f t)
    -- 5, badly nested (2.8): its end is not after itself, or lies past its owner's end (past the table where it has no owner)
    ∷ (leb (s_end m f t) t ⇒ refusal 5 f t)
    ∷ (ltb (owner_end m f t) (s_end m f t) ⇒ refusal 5 f t)
    -- it is of kinds 0 to 6 and its end is not t + 1
    ∷ (not (holds_others k) && not (eqb (s_end m f t) (t + 1)) ⇒ refusal 5 f t)
    -- it is an Arm whose owner is not an If, a Switch or a Loop, or another statement whose owner is one of these
    ∷ (misowned k (owner_kind m f t) ⇒ refusal 5 f t)
    -- it is an Arm with sub 1 (it falls through) whose owner is not a Switch
    ∷ (eqb (s_sub m f t) 1 && not (eqb (owner_kind m f t) 9) ⇒ refusal 5 f t)
    -- 6: a pool part that is not within the pool; an operand that is no expression of f; an Emit range that starts past its end or ends
    -- past the expressions; a Call whose callee is no lower function
    ∷ (not (s_in_pool m f t) ⇒ refusal 6 f t)
    ∷ (s_some_unknown m f t ⇒ refusal 6 f t)
    ∷ (eqb k 0 && (ltb (s_first m f t) (s_number m f t) || ltb (expressions m f) (s_first m f t)) ⇒ refusal 6 f t)
    ∷ (eqb k 6 && leb f (s_number m f t) ⇒ refusal 6 f t)
    -- 15: the statement stands inside more than 32 others, arms counted
    ∷ (ltb L.depth (depth m f t) ⇒ refusal 15 f t)
    -- 10: a Call with another number of arguments than its callee has
    ∷ (eqb k 6 && not (eqb n (arguments m (s_number m f t))) ⇒ refusal 10 f t)
    ∷ []

-- 2.5, 7: once all have passed, 5 (f, t) at the first If or Loop t that does not directly hold exactly two arms
unfoldable pub arms : List ℕ → ℕ → ℕ → ℕ
arms m f t = count (λ u. eqb (owner m f u) (suc t)) (range 0 (statements m f))

unfoldable pub arms_form : List ℕ → ℕ → ℕ → List Check
arms_form m f t = ((eqb (s_kind m f t) 8 || eqb (s_kind m f t) 10) && not (eqb (arms m f t) 2) ⇒ refusal 5 f t) ∷ []

-- 2.5, 8: 5 (f, i) where it is 65535, 6 (f, i) where it is no expression of f
unfoldable pub listed_form : List ℕ → ℕ → (ℕ → ℕ) → ℕ → List Check
listed_form m f at i = (eqb (at i) absent ⇒ refusal 5 f i) ∷ (leb (expressions m f) (at i) ⇒ refusal 6 f i) ∷ []

-- 2.5 The sheet of f, in this order
unfoldable pub sheet_form : Limits → List ℕ → ℕ → Unit {0} → Checked (Unit {0})
sheet_form L m f _ = do
  _ ← first (sheet_header L m f)
  _ ← for_each (argument_code m f) (range 0 (arguments m f))
  _ ← for_each (expression_form m f) (range 0 (expressions m f))
  _ ← for_each (statement_form L m f) (range 0 (statements m f))
  _ ← for_each (arms_form m f) (range 0 (statements m f))
  _ ← for_each (listed_form m f (initialiser m f)) (range 0 (initialisers m f))
  for_each (listed_form m f (named_at m f)) (range 0 (named m f))

-- 2.10 Left over. 2 (functions, 0): bytes remain after the last sheet
unfoldable pub left_over : List ℕ → List Check
left_over m = (ltb (sheet m (functions m)) (length m) ⇒ refusal 2 (functions m) 0) ∷ []

-- 2 The form of the whole module
unfoldable pub form : Limits → List ℕ → Checked (Unit {0})
form L m = do
  _ ← first (outer L m)
  _ ← first (module_counts L m)
  _ ← first (space_bytes m)
  _ ← first (capability_code m)
  _ ← for_each (space_code m) (range 0 (globals m))
  _ ← each (sheet_form L m) (range 0 (functions m)) tt
  first (left_over m)
