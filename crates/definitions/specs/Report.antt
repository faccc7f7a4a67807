-- 01, 7: the report, what it says and its bytes; and its accessors.
use Rattle.std.specs.Prelude.{ℕ, zero, suc, ◌+◌, ◌*◌, List, [], ◌∷◌, ◌++◌, Bool, true, false, cond, eqb, length}
use Rattle.std.proofs.Math.Option.{Option, none, some}
use Rattle.std.specs.Int.Bits.{bit_and}
use Rattle.definitions.specs.Bytes.{byte, be16, be32, put16, put32}
use Rattle.definitions.specs.Limits.{Limits}
use Rattle.definitions.specs.Module.{absent, globals, functions}
use Rattle.definitions.specs.Origin.{Origin, origin_number, origin_from}
use Rattle.definitions.specs.Ends.{End, glob, arg, Pair}
use Rattle.definitions.specs.Pairs.{Lists}
use Rattle.definitions.specs.Summary.{Summary, Entry, Section}

-- 7.2 may-kill (0 or 1)
unfoldable pub flag_byte : Bool → ℕ
flag_byte true = 1
flag_byte false = 0

-- 7.4 0 global, 1 argument
unfoldable pub tag : End → ℕ
tag (glob g) = 0
tag (arg a) = 1

unfoldable pub end_number : End → ℕ
end_number (glob g) = g
end_number (arg a) = a

-- 7.4 assignable global (65535 none)
unfoldable pub global_number : Option ℕ → ℕ
global_number none = absent
global_number (some g) = g

-- the records of a list, one after another
unfoldable pub concat_map : {A : Type 0} → (A → List ℕ) → List A → List ℕ
concat_map w [] = []
concat_map w (x ∷ xs) = w x ++ concat_map w xs

-- 7.4 A pair: u16 image, u16 sampler
unfoldable pub pair_bytes : Pair → List ℕ
pair_bytes p = put16 (end_number p.image) ++ put16 (end_number p.sampler)

-- 7.4 A mixed pair: u8 image tag, u8 sampler tag, u16 image, u16 sampler
unfoldable pub mixed_bytes : Pair → List ℕ
mixed_bytes p = (tag p.image ∷ tag p.sampler ∷ []) ++ put16 (end_number p.image) ++ put16 (end_number p.sampler)

-- 7.4 An expression: u16 origin, u8 requirements, u32 reference count, u16 assignable global
unfoldable pub entry_bytes : Entry → List ℕ
entry_bytes e =
    put16 (origin_number e.known.origin) ++ (e.known.requirements ∷ []) ++ put32 e.count ++ put16 (global_number e.known.assignable)

-- 7.2 Section: u16 origin, u8 requirements, u8 may-kill, u16 expressions, u16 pairs, u16 mixed pairs
unfoldable pub section_header : Section → List ℕ
section_header y =
    put16 (origin_number y.summary.origin) ++ (y.summary.requirements ∷ flag_byte y.summary.may_kill ∷ [])
    ++ put16 (length y.entries) ++ put16 (length y.summary.lists.pairs) ++ put16 (length y.summary.lists.mixed)

-- 7.2 then one use byte for each global; the pairs; the mixed pairs; the expressions
unfoldable pub section_bytes : Section → List ℕ
section_bytes y =
    section_header y
    ++ (y.summary.uses
    ++ (concat_map pair_bytes y.summary.lists.pairs
    ++ (concat_map mixed_bytes y.summary.lists.mixed
    ++ concat_map entry_bytes y.entries)))

-- 7.1 Header, 9 bytes: u32 length of everything after this field, u8 version, u16 globals, u16 functions
unfoldable pub report_header : Limits → List ℕ → ℕ → List ℕ
report_header L m sections_length = put32 (5 + sections_length) ++ (L.version ∷ []) ++ put16 (globals m) ++ put16 (functions m)

-- 7.1 Then one section for each function
unfoldable pub report : Limits → List ℕ → List Section → List ℕ
report L m sections =
    let body = concat_map section_bytes sections in
    report_header L m (length body) ++ body

-- The accessors. b is bytes in which sections stand, at is where one begins, g is the number of globals; so they read the whole report,
-- and as well what is written of it so far
unfoldable pub r_globals : List ℕ → ℕ
r_globals b = be16 b 5

unfoldable pub r_functions : List ℕ → ℕ
r_functions b = be16 b 7

unfoldable pub r_origin : List ℕ → ℕ → Origin
r_origin b at = origin_from (be16 b at)

unfoldable pub r_requirements : List ℕ → ℕ → ℕ
r_requirements b at = byte b (at + 2)

unfoldable pub r_may_kill : List ℕ → ℕ → Bool
r_may_kill b at = eqb (byte b (at + 3)) 1

unfoldable pub r_expressions : List ℕ → ℕ → ℕ
r_expressions b at = be16 b (at + 4)

unfoldable pub r_pair_count : List ℕ → ℕ → ℕ
r_pair_count b at = be16 b (at + 6)

unfoldable pub r_mixed_count : List ℕ → ℕ → ℕ
r_mixed_count b at = be16 b (at + 8)

unfoldable pub r_use : List ℕ → ℕ → ℕ → ℕ
r_use b at i = byte b (at + 10 + i)

-- where the pairs, the mixed pairs and the expressions begin, and where the section ends
unfoldable pub r_pairs_at : ℕ → List ℕ → ℕ → ℕ
r_pairs_at g b at = at + 10 + g

unfoldable pub r_mixed_at : ℕ → List ℕ → ℕ → ℕ
r_mixed_at g b at = r_pairs_at g b at + 4 * r_pair_count b at

unfoldable pub r_entries_at : ℕ → List ℕ → ℕ → ℕ
r_entries_at g b at = r_mixed_at g b at + 6 * r_mixed_count b at

unfoldable pub r_section_end : ℕ → List ℕ → ℕ → ℕ
r_section_end g b at = r_entries_at g b at + 9 * r_expressions b at

-- one record of each, by where it stands
unfoldable pub end_from : ℕ → ℕ → End
end_from tag x = cond (eqb tag 0) (glob x) (arg x)

unfoldable pub global_from : ℕ → Option ℕ
global_from x = cond (eqb x absent) none (some x)

unfoldable pub r_pair : List ℕ → ℕ → Pair
r_pair b p = record { image = glob (be16 b p); sampler = glob (be16 b (p + 2)) }

unfoldable pub r_mixed : List ℕ → ℕ → Pair
r_mixed b p = record { image = end_from (byte b p) (be16 b (p + 2)); sampler = end_from (byte b (p + 1)) (be16 b (p + 4)) }

unfoldable pub r_entry : List ℕ → ℕ → Entry
r_entry b p = record {
  known = record { origin = origin_from (be16 b p); requirements = byte b (p + 2); assignable = global_from (be16 b (p + 7)) };
  count = be32 b (p + 3);
}

-- n records of `size` bytes each, from p on
unfoldable pub records : {A : Type 0} → (List ℕ → ℕ → A) → ℕ → List ℕ → ℕ → ℕ → List A
records one size b p zero = []
records one size b p (suc n) = one b p ∷ records one size b (p + size) n

-- a whole section
unfoldable pub r_lists : ℕ → List ℕ → ℕ → Lists
r_lists g b at = record {
  pairs = records r_pair 4 b (r_pairs_at g b at) (r_pair_count b at);
  mixed = records r_mixed 6 b (r_mixed_at g b at) (r_mixed_count b at);
}

unfoldable pub r_summary : ℕ → List ℕ → ℕ → Summary
r_summary g b at = record {
  origin = r_origin b at;
  requirements = r_requirements b at;
  may_kill = r_may_kill b at;
  uses = records byte 1 b (at + 10) g;
  lists = r_lists g b at;
}

unfoldable pub r_section : ℕ → List ℕ → ℕ → Section
r_section g b at = record { summary = r_summary g b at; entries = records r_entry 9 b (r_entries_at g b at) (r_expressions b at) }

-- where the section of f begins in a report
unfoldable pub r_section_at : ℕ → List ℕ → ℕ → ℕ
r_section_at g b zero = 9
r_section_at g b (suc f) = let p = r_section_at g b f in r_section_end g b p

-- what a report says of function f
unfoldable pub section_in : List ℕ → ℕ → Section
section_in b f = r_section (r_globals b) b (r_section_at (r_globals b) b f)

-- 7.6 Cover. One function's uses dominate another's when, global by global, every use that the other has the one has too. Where one list
-- is shorter, only as many globals are compared as it has
unfoldable pub dominates : List ℕ → List ℕ → Bool
dominates [] ys = true
dominates (x ∷ xs) [] = true
dominates (x ∷ xs) (y ∷ ys) = elim (eqb (bit_and x y) y) [ true ↦ dominates xs ys | false ↦ false ]
