-- A section that reads back as what was written, and that keeps to its limits (Within in the definitions), passes each
-- test of `reading`; and so do all sections, one after another.
use Prim.Native.Nat.{ℕ, zero, suc, ◌+◌, ◌-◌, ◌*◌, ◌≤◌, ◌<◌}
use native.Mathlib.Omega.{arith}
use mathlib.Core.Path.{◌≡◌, refl, sym, ap, subst, ◌∙◌}
use mathlib.Core.Bool.{Bool, true, false, ◌&&◌, not}
use mathlib.Core.Logic.{inl, inr}
use mathlib.Core.List.{List}
use mathlib.Core.Option.{Option, none, some}
use lib.Dec.{ltb, eqb}
use lib.ListN.{length, get_or}
use borrow.Author.Tests.{le-ltb, lt-leb}
use Rattle.definitions.specs.Bytes.{byte, range}
use Rattle.definitions.specs.Limits.{Limits}
use Rattle.definitions.specs.Module.{globals, arguments}
use Rattle.definitions.specs.Checks.{any}
use Rattle.definitions.specs.Origin.{Origin, nowhere, from_expression}
use Rattle.definitions.specs.Ends.{End, glob, arg, Pair, both_global, before}
use Rattle.definitions.specs.State.{unknown}
use Rattle.definitions.specs.Summary.{Section, Entry}
use Rattle.definitions.specs.Report.{flag_byte, section_bytes, r_globals, r_origin, r_requirements, r_expressions, r_pair_count, r_mixed_count, r_use, r_mixed_at, r_section_end, r_section, r_section_at}
use Rattle.definitions.specs.Chains.{Mem, Ascending}
use Rattle.definitions.proofs.Passed.{none_any}
use Rattle.definitions.proofs.Ranges.{range_from}
use Rattle.definitions.proofs.Sorted.{mem_at, in_order}
use Rattle.definitions.proofs.Formed.{SheetFormed}
use Rattle.definitions.proofs.Enter.{Has}
use Rattle.definitions.proofs.EndsIn.{EndIn, EndsIn}
use Rattle.definitions.proofs.Reading.{Stands, OriginBelow, GlobalBelow, section_length, reads_end, reads_flag, reads_tags}
use Rattle.definitions.proofs.Within.{KnownWithin, SectionWithin}
use Rattle.std.specs.Prelude.{Ok}
use Rattle.report.specs.Sizes.{section_header_size}
use Rattle.report_reader.specs.Reading.{pair_in, mixed_place, mixed_in, entry_in, origin_wrong, global_wrong, mask_wrong, summary_wrong, use_wrong, end_wrong, ends_wrong, out_of_order, listed_wrong, pair_wrong, mixed_wrong, expression_wrong, over_limits, section_form, sections_form}
use Rattle.report_reader.proofs.FirstFault.{pass, neither, goes}
use Rattle.report_reader.proofs.AsWritten.{origin_is, requirements_are, use_is, pair_count_is, pair_is, mixed_count_is, mixed_is, expressions_are, entry_is}

and_false : (t : Bool) → (t && false) ≡ false
and_false true = refl
and_false false = refl

-- 7.2, 7.4 none, or a number below n; a mask
origin_right : (L : Limits) (o : Origin) → OriginBelow L.expressions o → origin_wrong L o ≡ false
origin_right L nowhere h = refl
origin_right L (from_expression e) h = lt-leb L.expressions e h

global_right : (n : ℕ) (g : Option ℕ) → GlobalBelow n g → global_wrong n g ≡ false
global_right n none h = refl
global_right n (some g) h = lt-leb n g h

mask_right : (x : ℕ) → x ≤ 15 → mask_wrong x ≡ false
mask_right x h = le-ltb 15 x h

flag_low : (t : Bool) → flag_byte t ≤ 1
unfolding flag_byte
flag_low true = omega arith
flag_low false = omega arith

-- 7.4 the ends of a pair, and its place in its list
end_right : (L : Limits) (g n : ℕ) (x : End) → n ≤ L.arguments → EndIn g n x → end_wrong L g x ≡ false
end_right L g n (glob y) h k = lt-leb g y k
end_right L g n (arg a) h k = lt-leb L.arguments a (omega arith)

module _ (L : Limits) (g n : ℕ) (few : n ≤ L.arguments) (list : ℕ → Pair) (l : List Pair) (d : Pair) (is : (i : ℕ) → i < length l → list i ≡ get_or l i d)
    (up : Ascending l) (there : (x : Pair) → Mem x l → EndsIn g n x) where
  ends_right : (i : ℕ) → i < length l → ends_wrong L g (list i) ≡ false
  ends_right i lt =
      let x = get_or l i d in
      let h = there x (mem_at l i d lt) in
      ap (ends_wrong L g) (is i lt) ∙ neither _ _ (end_right L g n x.image few h.0) (end_right L g n x.sampler few h.1)

  order_right : (i : ℕ) → i < length l → out_of_order list i ≡ false
  order_right zero lt = refl
  order_right (suc i) lt =
      let e : suc i - 1 ≡ i = omega arith in
      let q : before (list (suc i - 1)) (list (suc i)) ≡ true =
      ap (λ k. before (list k) (list (suc i))) e
      ∙ (ap (λ x. before x (list (suc i))) (is i (omega arith)) ∙ (ap (before (get_or l i d)) (is (suc i) lt) ∙ in_order l up i (suc i) d (omega arith) lt)) in
      ap (λ t. not (eqb (suc i) 0) && not t) q ∙ and_false (not (eqb (suc i) 0))

  listed_right : (i : ℕ) → i < length l → listed_wrong L g list i ≡ false
  listed_right i lt = neither _ _ (ends_right i lt) (order_right i lt)

-- any pair and any entry, where a list asks for one past its end
no_pair : Pair
no_pair = record { image = glob 0; sampler = glob 0 }

no_entry : Entry
no_entry = record { known = unknown; count = 0 }

-- a section that stands at p of b, reads back as y, and keeps to its limits
module _ (L : Limits) (m : List ℕ) (f : ℕ) (sheet : SheetFormed L m f) (b : List ℕ) (p : ℕ) (y : Section) (same : r_globals b ≡ globals m)
    (stands : Stands b p (section_bytes y)) (reads : r_section (r_globals b) b p ≡ y) (within : SectionWithin L m f y) where
  abbrev g : ℕ
  g = r_globals b

  summary_right : summary_wrong L b p ≡ false
  summary_right =
      let o : OriginBelow L.expressions (r_origin b p) = subst (OriginBelow L.expressions) (sym (origin_is g b p y reads)) within.told.origin_below in
      let r : r_requirements b p ≤ 15 = (let e = requirements_are g b p y reads in let h = within.told.masked in omega arith) in
      let k : byte b (p + 3) ≤ 1 = (let e = reads_flag b p y stands in let h = flag_low y.summary.may_kill in omega arith) in
      neither _ _ (origin_right L _ o) (neither _ _ (mask_right _ r) (le-ltb _ _ k))

  uses_right : any (use_wrong b p) (range 0 g) ≡ false
  uses_right = none_any (use_wrong b p) (range 0 g) (λ i k.
      let lt = range_from 0 g i k in
      let e = use_is g b p y reads i (omega arith) in
      let h = within.told.uses_masked i in
      mask_right (r_use b p i) (omega arith))

  ends_there : (x : Pair) → Has x y.summary.lists → EndsIn g (arguments m f) x
  ends_there x has = subst (λ k. EndsIn k (arguments m f) x) (sym same) (within.ends_there x has)

  pairs_right : any (pair_wrong L b p) (range 0 (r_pair_count b p)) ≡ false
  pairs_right = none_any (pair_wrong L b p) (range 0 (r_pair_count b p)) (λ i k.
      let lt = range_from 0 (r_pair_count b p) i k in
      let n = pair_count_is g b p y reads in
      listed_right L g (arguments m f) sheet.few_arguments (pair_in b p) y.summary.lists.pairs no_pair
      (λ j h. pair_is g b p y reads j no_pair (omega arith)) within.lists_kept.pairs_up (λ x h. ends_there x (inl h)) i (omega arith))

  mixed_right : any (mixed_wrong L b p) (range 0 (r_mixed_count b p)) ≡ false
  mixed_right = none_any (mixed_wrong L b p) (range 0 (r_mixed_count b p)) (λ i k.
      let lt = range_from 0 (r_mixed_count b p) i k in
      let n = mixed_count_is g b p y reads in
      let q : i < length y.summary.lists.mixed = omega arith in
      let at = mixed_place b p i in
      let u : length y.summary.uses ≡ g = within.a_use_each ∙ sym same in
      let t : (byte b at ≤ 1) × (byte b (at + 1) ≤ 1) = subst (λ v. (byte b (r_mixed_at v b p + 6 * i) ≤ 1) × (byte b (r_mixed_at v b p + 6 * i + 1) ≤ 1)) u (reads_tags b p y stands i q) in
      let x = get_or y.summary.lists.mixed i no_pair in
      let not_both : both_global (mixed_in b p i) ≡ false = ap both_global (mixed_is g b p y reads i no_pair (omega arith)) ∙ within.lists_kept.mixed_not x (mem_at y.summary.lists.mixed i no_pair q) in
      neither _ _ (neither _ _ (le-ltb _ _ t.0) (le-ltb _ _ t.1))
      (neither _ _ not_both
      (listed_right L g (arguments m f) sheet.few_arguments (mixed_in b p) y.summary.lists.mixed no_pair
      (λ j h. mixed_is g b p y reads j no_pair (omega arith)) within.lists_kept.mixed_up (λ z h. ends_there z (inr h)) i q)))

  expressions_right : any (expression_wrong L b p) (range 0 (r_expressions b p)) ≡ false
  expressions_right = none_any (expression_wrong L b p) (range 0 (r_expressions b p)) (λ i k.
      let lt = range_from 0 (r_expressions b p) i k in
      let n = expressions_are g b p y reads in
      let x = entry_in b p i in
      let h : KnownWithin L.expressions (globals m) (get_or y.entries i no_entry).known = within.each_entry _ (mem_at y.entries i no_entry (omega arith)) in
      let w : KnownWithin L.expressions (globals m) x.known = subst (λ v. KnownWithin L.expressions (globals m) v.known) (sym (entry_is g b p y reads i no_entry (omega arith))) h in
      let a : GlobalBelow g x.known.assignable = subst (λ v. GlobalBelow v x.known.assignable) (sym same) w.global_below in
      neither _ _ (origin_right L _ w.origin_below) (neither _ _ (mask_right _ w.masked) (global_right g _ a)))

  counts_right : over_limits L (r_expressions b p) (r_pair_count b p) (r_mixed_count b p) ≡ false
  counts_right =
      let e : r_expressions b p ≤ L.expressions = (let n = expressions_are g b p y reads in let u = within.an_entry_each in let v = sheet.few_expressions in omega arith) in
      let n : r_pair_count b p ≤ L.pairs = (let k = pair_count_is g b p y reads in let w = within.lists_kept.few_pairs in omega arith) in
      let x : r_mixed_count b p ≤ L.pairs = (let k = mixed_count_is g b p y reads in let w = within.lists_kept.few_mixed in omega arith) in
      neither _ _ (le-ltb _ _ e) (neither _ _ (le-ltb _ _ n) (le-ltb _ _ x))

  pub ends_at : r_section_end g b p ≡ p + length (section_bytes y)
  ends_at = subst (λ v. r_section_end v b p ≡ p + length (section_bytes y)) (within.a_use_each ∙ sym same) (reads_end b p y stands)

  -- in bytes that go on to its end
  pub section_right : p + length (section_bytes y) ≤ length b → section_form L b f p ≡ Ok tt
  unfolding section_form
  section_right fits =
      let n = section_length y in
      let e = ends_at in
      let header : ltb (length b) (p + section_header_size) ≡ false = le-ltb (length b) (p + section_header_size) (omega arith) in
      let end : ltb (length b) (r_section_end g b p) ≡ false = le-ltb (length b) (r_section_end g b p) (omega arith) in
      rw (header, counts_right, end, summary_right, uses_right, pairs_right, mixed_right, expressions_right)

-- one section after another, and nothing is left over
pub sections_right : (L : Limits) (b : List ℕ) (all f n : ℕ) → ((i : ℕ) → i < all → section_form L b i (r_section_at (r_globals b) b i) ≡ Ok tt)
    → length b ≤ r_section_at (r_globals b) b all → f + n ≡ all → sections_form L b f (r_section_at (r_globals b) b f) n ≡ Ok tt
unfolding sections_form r_section_at
sections_right L b all f zero each end e =
    let z : all ≡ f = omega arith in
    pass (ltb (r_section_at (r_globals b) b f) (length b)) _ _ (le-ltb _ _ (subst (λ i. length b ≤ r_section_at (r_globals b) b i) z end))
sections_right L b all f (suc n) each end e = goes _ _ (each f (omega arith)) ∙ sections_right L b all (suc f) n each end (omega arith)
