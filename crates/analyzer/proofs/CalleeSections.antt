-- The sections of the functions that are done can be taken by a caller (walk, ValidSection): each can be read, and each end of its mixed pairs is a
-- global, or an argument that the function has.
use Prim.Native.Nat.{ℕ, zero, suc, ◌+◌, ◌*◌, ◌≤◌, ◌<◌}
use native.Mathlib.Omega.{arith}
use mathlib.Core.List.{List}
use mathlib.Core.Logic.{inl, inr}
use mathlib.Core.Path.{◌≡◌, sym, ap, ◌∙◌, subst}
use lib.ListN.{length, get_or}
use Rattle.definitions.specs.Limits.{version_1, version_1_sound}
use Rattle.definitions.specs.Module.{globals, functions, arguments}
use Rattle.definitions.specs.Ends.{Pair}
use Rattle.definitions.specs.Summary.{Section, no_section, summary_of}
use Rattle.definitions.specs.Report.{records, r_mixed, r_mixed_count, r_mixed_at, r_lists, r_summary, r_section, r_section_at}
use Rattle.definitions.specs.Chains.{Mem}
use Rattle.definitions.proofs.Formed.{Formed}
use Rattle.definitions.proofs.Modules.{done_length}
use Rattle.definitions.proofs.Numbering.{sections_read}
use Rattle.definitions.proofs.Reports.{next_section, reads_so_far}
use Rattle.memory.specs.Changes.{table, section_at}
use Rattle.report.proofs.Sections.{place_read}
use Rattle.rules_pairs.proofs.Arguments.{lists_below}
use Rattle.rules_pairs.specs.States.{callees}
use Rattle.rules_statements.specs.Results.{EndsBelow, ValidSection}
use Rattle.analyzer.specs.Run.{SectionsWritten}

-- a record of a list of mixed pairs is one of them
record_in : (b : List ℕ) (p n i : ℕ) → i < n → Mem (r_mixed b (p + 6 * i)) (records r_mixed 6 b p n)
unfolding records
record_in b p zero i h = absurd (omega arith)
record_in b p (suc n) zero h = let e : p + 6 * 0 ≡ p = omega arith in inl (ap (r_mixed b) e)
record_in b p (suc n) (suc i) h =
    let e : p + 6 + 6 * i ≡ p + 6 * suc i = omega arith in
    inr (subst (λ q. Mem (r_mixed b q) (records r_mixed 6 b (p + 6) n)) e (record_in b (p + 6) n i (omega arith)))

pub settles : (m : List ℕ) (f : ℕ) (b w : List ℕ) (out : ℕ) → Formed version_1 m → f ≤ functions m → SectionsWritten m f b w out → 65536 ≤ length b
    → (g : ℕ) → g < f → ValidSection m b g (section_at (table w) g)
unfolding r_section_at r_section r_summary r_lists summary_of
settles m f b w out formed some h room g lt =
    subst (ValidSection m b g) (sym there) (record {
      within = omega (arith, next_section b (globals m) d h.stands uses (suc g) (omega (arith, len)), h.next, h.short);
      mixed = λ i k. ends (r_mixed b (r_mixed_at (globals m) b p + 6 * i))
          (subst (λ (y : Section). Mem (r_mixed b (r_mixed_at (globals m) b p + 6 * i)) y.summary.lists.mixed) reads (record_in b (r_mixed_at (globals m) b p) (r_mixed_count b p) i k));
    })
  where
    d : List Section
    d = callees m f b w

    p : ℕ
    p = r_section_at (globals m) b g

    len : length d ≡ f
    len = done_length version_1 m f d h.by_rules

    uses : (k : ℕ) → k < length d → length (get_or d k no_section).summary.uses ≡ globals m
    uses k l = (sections_read version_1 version_1_sound m formed f some d h.by_rules k (omega (arith, len))).a_use_each

    there : section_at (table w) g ≡ p
    there = h.places g lt ∙ sym (place_read b (globals m) d h.stands uses g (omega (arith, len)))

    reads : r_section (globals m) b p ≡ get_or d g no_section
    reads = reads_so_far version_1 version_1_sound m formed f some d h.by_rules b h.stands g lt

    ends : (z : Pair) → Mem z (get_or d g no_section).summary.lists.mixed → EndsBelow (arguments m g) z
    ends z k =
        let e = lists_below version_1 m formed f some d h.by_rules g lt z (inr k) in
        record { image = e.0; sampler = e.1 }
