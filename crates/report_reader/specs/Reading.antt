-- 01, 7, from the reader's side: which bytes are a report, and what is wrong with bytes that are not. The tests come in the
-- order in which they stand here, and the first that holds gives the fault.
--
-- They ask about the layout, not whether some module has this report: damage that makes another right report is not seen.
-- An origin may be a callee's expression (01, 5.2), so the limit of 1.3 bounds it and not the section's own count.
use Rattle.std.specs.Prelude.{ℕ, zero, suc, ◌+◌, ◌-◌, ◌*◌, List, Bool, false, cond, ◌&&◌, ◌||◌, not, ltb, leb, eqb, length, Result, Ok, Err}
use Rattle.std.proofs.Math.Option.{Option, none, some}
use Rattle.definitions.specs.Bytes.{byte, be32, range}
use Rattle.definitions.specs.Checks.{any}
use Rattle.definitions.specs.Limits.{Limits}
use Rattle.definitions.specs.Origin.{Origin, nowhere, from_expression}
use Rattle.definitions.specs.Ends.{End, glob, arg, Pair, both_global, before}
use Rattle.definitions.specs.Summary.{Entry}
use Rattle.definitions.specs.Report.{r_globals, r_functions, r_origin, r_requirements, r_expressions, r_pair_count, r_mixed_count, r_use, r_pairs_at, r_mixed_at, r_entries_at, r_section_end, r_pair, r_mixed, r_entry}
use Rattle.report.specs.Sizes.{header_size, section_header_size, pair_size, mixed_size, entry_size}
use Rattle.report_reader.specs.declared.Fault.{Fault}
use Rattle.report_reader.specs.declared.Fault.TheVariants.{Short, Long, Length, Version, Globals, Functions, Cut, Counts, Summary, Uses, Pairs, Mixed, Expressions, LeftOver}

-- bytes are a report, or what is wrong with them
abbrev pub Reading : Type 0
Reading = Result (Unit {0}) Fault

-- one part after another: the first fault is the answer
unfoldable pub and_then : Reading → Reading → Reading
and_then (Ok u) rest = rest
and_then (Err why) rest = Err why

-- 7.1 u16 globals, u16 functions (1.4: 256, 64)
abbrev pub counts_form : Limits → List ℕ → Reading
counts_form L b =
    cond (ltb L.globals (r_globals b)) (Err (Globals (r_globals b)))
    (cond (ltb L.functions (r_functions b)) (Err (Functions (r_functions b)))
    (Ok tt))

-- 7.1 Header, 9 bytes: u32 length of everything after this field, u8 version. 7.5 At most 65,536 bytes in all
abbrev pub header_form : Limits → List ℕ → Reading
header_form L b =
    cond (ltb (length b) header_size) (Err Short)
    (cond (ltb L.report (length b)) (Err Long)
    (cond (not (eqb (be32 b 0 + 4) (length b))) (Err (Length (be32 b 0)))
    (cond (not (eqb (byte b 4) L.version)) (Err (Version (byte b 4)))
    (counts_form L b))))

-- 7.4 the records of the section at `at`, by their numbers; of a mixed pair, where it stands
abbrev pub pair_in : List ℕ → ℕ → ℕ → Pair
pair_in b at i = r_pair b (r_pairs_at (r_globals b) b at + pair_size * i)

abbrev pub mixed_place : List ℕ → ℕ → ℕ → ℕ
mixed_place b at i = r_mixed_at (r_globals b) b at + mixed_size * i

abbrev pub mixed_in : List ℕ → ℕ → ℕ → Pair
mixed_in b at i = r_mixed b (mixed_place b at i)

abbrev pub entry_in : List ℕ → ℕ → ℕ → Entry
entry_in b at i = r_entry b (r_entries_at (r_globals b) b at + entry_size * i)

-- 7.2, 7.4 an origin is none, or an expression that a function can have (1.3: 2,048)
abbrev pub origin_wrong : Limits → Origin → Bool
origin_wrong L nowhere = false
origin_wrong L (from_expression e) = leb L.expressions e

-- 7.4 an assignable global is none, or a global of the module
abbrev pub global_wrong : ℕ → Option ℕ → Bool
global_wrong globals none = false
global_wrong globals (some g) = leb globals g

-- 3.6 requirements, 7.3 uses: a mask of 1, 2, 4 and 8
abbrev pub mask_wrong : ℕ → Bool
mask_wrong x = ltb 15 x

-- 7.2 u16 origin, u8 requirements, u8 may-kill (0 or 1)
abbrev pub summary_wrong : Limits → List ℕ → ℕ → Bool
summary_wrong L b at = origin_wrong L (r_origin b at) || (mask_wrong (r_requirements b at) || ltb 1 (byte b (at + 3)))

-- 7.3 the use of global i
abbrev pub use_wrong : List ℕ → ℕ → ℕ → Bool
use_wrong b at i = mask_wrong (r_use b at i)

-- 7.4 the number of a global of the module, or of an argument (1.3: 64)
abbrev pub end_wrong : Limits → ℕ → End → Bool
end_wrong L globals (glob g) = leb globals g
end_wrong L globals (arg a) = leb L.arguments a

abbrev pub ends_wrong : Limits → ℕ → Pair → Bool
ends_wrong L globals x = end_wrong L globals x.image || end_wrong L globals x.sampler

-- 4.4 Each stands there once, and the lists ascend
abbrev pub out_of_order : (ℕ → Pair) → ℕ → Bool
out_of_order list i = not (eqb i 0) && not (before (list (i - 1)) (list i))

abbrev pub listed_wrong : Limits → ℕ → (ℕ → Pair) → ℕ → Bool
listed_wrong L globals list i = ends_wrong L globals (list i) || out_of_order list i

-- 7.4 the pair i
abbrev pub pair_wrong : Limits → List ℕ → ℕ → ℕ → Bool
pair_wrong L b at i = listed_wrong L (r_globals b) (pair_in b at) i

-- 7.4 the mixed pair i: tags 0 or 1, an end that is an argument
abbrev pub tags_wrong : List ℕ → ℕ → Bool
tags_wrong b p = ltb 1 (byte b p) || ltb 1 (byte b (p + 1))

abbrev pub mixed_wrong : Limits → List ℕ → ℕ → ℕ → Bool
mixed_wrong L b at i =
    tags_wrong b (mixed_place b at i)
    || (both_global (mixed_in b at i)
    || listed_wrong L (r_globals b) (mixed_in b at) i)

-- 7.4 the expression i: its origin, its requirements and its assignable global; its count may be any number
abbrev pub entry_wrong : Limits → ℕ → Entry → Bool
entry_wrong L globals x =
    origin_wrong L x.known.origin || (mask_wrong x.known.requirements || global_wrong globals x.known.assignable)

abbrev pub expression_wrong : Limits → List ℕ → ℕ → ℕ → Bool
expression_wrong L b at i = entry_wrong L (r_globals b) (entry_in b at i)

-- 7.2 what stands in the section at `at`, all of which is there
abbrev pub contents_form : Limits → List ℕ → ℕ → ℕ → Reading
contents_form L b f at =
    cond (summary_wrong L b at) (Err (Summary f))
    (cond (any (use_wrong b at) (range 0 (r_globals b))) (Err (Uses f))
    (cond (any (pair_wrong L b at) (range 0 (r_pair_count b at))) (Err (Pairs f))
    (cond (any (mixed_wrong L b at) (range 0 (r_mixed_count b at))) (Err (Mixed f))
    (cond (any (expression_wrong L b at) (range 0 (r_expressions b at))) (Err (Expressions f))
    (Ok tt)))))

-- 7.2 u16 expressions, u16 pairs, u16 mixed pairs (1.3: 2,048; 4.4: 256 entries in each list)
abbrev pub over_limits : Limits → ℕ → ℕ → ℕ → Bool
over_limits L expressions pairs mixed = ltb L.expressions expressions || (ltb L.pairs pairs || ltb L.pairs mixed)

-- 7.2 the section of f, whose header is there; and the section that begins at `at`
abbrev pub section_header_form : Limits → List ℕ → ℕ → ℕ → Reading
section_header_form L b f at =
    cond (over_limits L (r_expressions b at) (r_pair_count b at) (r_mixed_count b at)) (Err (Counts f))
    (cond (ltb (length b) (r_section_end (r_globals b) b at)) (Err (Cut f))
    (contents_form L b f at))

unfoldable pub section_form : Limits → List ℕ → ℕ → ℕ → Reading
section_form L b f at = cond (ltb (length b) (at + section_header_size)) (Err (Cut f)) (section_header_form L b f at)

-- 7.1 Then one section for each function, from f on, n of them; nothing is left over
unfoldable pub sections_form : Limits → List ℕ → ℕ → ℕ → ℕ → Reading
sections_form L b f at zero = cond (ltb at (length b)) (Err LeftOver) (Ok tt)
sections_form L b f at (suc n) = and_then (section_form L b f at) (sections_form L b (suc f) (r_section_end (r_globals b) b at) n)

-- any bytes: a report, or what is wrong with them
unfoldable pub reading : Limits → List ℕ → Reading
reading L b = and_then (header_form L b) (sections_form L b 0 header_size (r_functions b))
