-- The pair is there, the list is full, or a place is opened for it (Insert).
use Rattle.definitions.specs.Limits.{version_1}
use native.Mathlib.Omega.{arith}
use Rattle.rules_pairs.proofs.Insert.{place_within, is_listed, is_full, is_opened}
use borrow.Author.Rules.{rules}
use Rattle.rules_pairs.proofs.list.insert.Goals as goal

pub returns-in_default : goal.returns-in_default
returns-in_default c = is_listed _ _ _ _ _ _ c.requires c.find.ensures _ c.in_default.is

pub returns-then-n-ge-ENTRIES : goal.returns-then-n-ge-ENTRIES
unfolding version_1
returns-then-n-ge-ENTRIES c = is_full _ _ _ _ _ _ c.requires c.find.ensures _ c.in-Err.is c.if-n-ge-ENTRIES.true

pub overflow_mul-at : goal.overflow_mul-at
unfolding version_1
overflow_mul-at c = record { fits = omega (arith, place_within _ _ _ _ _ c.find.ensures c.in-Err.is) }

pub overflow_add-at : goal.overflow_add-at
unfolding version_1
overflow_add-at c = record { fits = omega (arith, place_within _ _ _ _ _ c.find.ensures c.in-Err.is) }

pub overflow_mul-n : goal.overflow_mul-n
unfolding version_1
overflow_mul-n c = search rules

pub overflow_add-list : goal.overflow_add-list
unfolding version_1
overflow_add-list c = search rules

pub move_up-requires : goal.move_up-requires
unfolding version_1
move_up-requires c = let h = place_within _ _ _ _ _ c.find.ensures c.in-Err.is in record { up = omega arith; fits = omega arith }

pub put-requires : goal.put-requires
unfolding version_1
put-requires c = omega (arith, place_within _ _ _ _ _ c.find.ensures c.in-Err.is)

pub overflow_add-result : goal.overflow_add-result
unfolding version_1
overflow_add-result c = search rules

pub returns : goal.returns
unfolding version_1
returns c = is_opened _ _ _ _ _ _ c.requires c.find.ensures _ c.in-Err.is _ _ (search rules) c.move_up.ensures.is c.put.ensures.is
