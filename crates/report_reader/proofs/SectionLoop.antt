-- The loop over the sections: what is left of it at each turn, and what holds of each section once all have passed.
use Prim.Native.Nat.{ℕ, zero, suc, ◌+◌, ◌-◌, ◌≤◌, ◌<◌}
use native.Mathlib.Omega.{arith}
use mathlib.Core.Path.{◌≡◌, refl, sym, ap, ◌∙◌}
use mathlib.Core.List.{List}
use mathlib.Core.Bool.{cond}
use lib.Dec.{ltb}
use lib.ListN.{length}
use borrow.Author.Tests.{ltb-false, lt-ltb, le-ltb}
use Rattle.definitions.specs.Limits.{Limits, version_1}
use Rattle.definitions.specs.Report.{r_globals, r_functions, r_expressions, r_pair_count, r_mixed_count, r_section_at, r_section_end}
use Rattle.report.specs.Sizes.{header_size, section_header_size}
use Rattle.report_reader.specs.declared.Fault.{Fault}
use Rattle.report_reader.specs.declared.Fault.TheVariants.{Cut, Counts, LeftOver}
use Rattle.std.specs.Prelude.{Ok, Err}
use Rattle.report_reader.specs.declared.header.Header.{Header}
use Rattle.report_reader.specs.Reading.{and_then, header_form, contents_form, over_limits, section_header_form, section_form, sections_form, reading}
use Rattle.report_reader.specs.Sections.{IsReport, ValidHeader, HeaderResult, ValidSection, ValidPlace}
use Rattle.report_reader.proofs.FirstFault.{pass, stop, passed, goes, ends, both}

-- what a header that has passed gives
pub header_valid : (b : List ℕ) → header_form version_1 b ≡ Ok tt → ValidHeader b
unfolding version_1
header_valid b e =
    let one = passed _ _ _ e in
    let two = passed _ _ _ one.1 in
    record { header = ltb-false _ _ one.0; small = ltb-false _ _ two.0 }

-- a section that has passed lies within the bytes
header_within : (L : Limits) (b : List ℕ) (f at : ℕ) → section_header_form L b f at ≡ Ok tt → r_section_end (r_globals b) b at ≤ length b
header_within L b f at e =
    let one = passed (over_limits L (r_expressions b at) (r_pair_count b at) (r_mixed_count b at)) (Counts f) _ e in
    let two = passed (ltb (length b) (r_section_end (r_globals b) b at)) (Cut f) (contents_form L b f at) one.1 in
    ltb-false _ _ two.0

section_within : (L : Limits) (b : List ℕ) (f at : ℕ) → section_form L b f at ≡ Ok tt → (at + section_header_size ≤ length b) × (r_section_end (r_globals b) b at ≤ length b)
unfolding section_form
section_within L b f at e = let one = passed _ _ _ e in (ltb-false _ _ one.0, header_within L b f at one.1)

-- The loop over the sections of b, of which there are n: f have passed, the next begins at `at`
pub record SectionLoop (b : List ℕ) (n f at : ℕ) : Type 0 where
  pub as_many : n ≡ r_functions b
  pub in_report : f ≤ n
  pub begins : at ≡ r_section_at (r_globals b) b f
  pub within : at ≤ length b
  pub same : sections_form version_1 b 0 header_size (r_functions b) ≡ sections_form version_1 b f at (n - f)

pub sections_start : (b : List ℕ) (n : ℕ) → ValidHeader b → n ≡ r_functions b → SectionLoop b n 0 header_size
unfolding r_section_at
sections_start b n h e = record {
  as_many = e;
  in_report = omega arith;
  begins = refl;
  within = h.header;
  same = (let q : r_functions b ≡ n - 0 = omega arith in ap (sections_form version_1 b 0 header_size) q);
}

one_more : (b : List ℕ) (n f at : ℕ) → f < n
    → sections_form version_1 b f at (n - f) ≡ and_then (section_form version_1 b f at) (sections_form version_1 b (f + 1) (r_section_end (r_globals b) b at) (n - (f + 1)))
unfolding sections_form
one_more b n f at lt =
    let q : n - f ≡ suc (n - (f + 1)) = omega arith in
    let p : suc f ≡ f + 1 = omega arith in
    ap (sections_form version_1 b f at) q ∙ ap (λ k. and_then (section_form version_1 b f at) (sections_form version_1 b k (r_section_end (r_globals b) b at) (n - (f + 1)))) p

-- fewer bytes are left than a section's header has
pub sections_cut : (b : List ℕ) (n f at : ℕ) → SectionLoop b n f at → f < n → length b < at + section_header_size
    → sections_form version_1 b 0 header_size (r_functions b) ≡ Err (Cut f)
unfolding section_form
sections_cut b n f at w lt short =
    let cut : section_form version_1 b f at ≡ Err (Cut f) = stop _ _ _ (lt-ltb (length b) (at + section_header_size) short) in
    w.same ∙ (one_more b n f at lt ∙ (ends _ _ _ cut ∙ cut))

header_is : (b : List ℕ) (f at : ℕ) → at + section_header_size ≤ length b → section_form version_1 b f at ≡ section_header_form version_1 b f at
unfolding section_form
header_is b f at room = pass _ _ _ (le-ltb (length b) (at + section_header_size) room)

module _ (b : List ℕ) (n f at : ℕ) (s : Header) (w : SectionLoop b n f at) (lt : f < n) (room : at + section_header_size ≤ length b) (there : HeaderResult b f at s) where
  section_is : section_form version_1 b f at ≡ section_header_form version_1 b s.function s.at
  section_is = header_is b f at room ∙ sym (ap (λ k. section_header_form version_1 b k s.at) there.named ∙ ap (section_header_form version_1 b f) there.placed)

  pub sections_fault : (why : Fault) → section_header_form version_1 b s.function s.at ≡ Err why → sections_form version_1 b 0 header_size (r_functions b) ≡ Err why
  sections_fault why fault =
      let is = section_is ∙ fault in
      w.same ∙ (one_more b n f at lt ∙ (ends _ why _ is ∙ is))

  pub sections_on : section_header_form version_1 b s.function s.at ≡ Ok tt → SectionLoop b n (f + 1) s.end
  unfolding r_section_at
  sections_on right =
      let is : section_form version_1 b f at ≡ Ok tt = section_is ∙ right in
      let end_is : s.end ≡ r_section_end (r_globals b) b at = there.layout.ends ∙ ap (r_section_end (r_globals b) b) there.placed in
      let fits = (section_within version_1 b f at is).1 in
      let p : suc f ≡ f + 1 = omega arith in
      record {
        as_many = w.as_many;
        in_report = omega arith;
        begins = end_is ∙ (ap (r_section_end (r_globals b) b) w.begins ∙ ap (r_section_at (r_globals b) b) p);
        within = omega arith;
        same = w.same ∙ (one_more b n f at lt ∙ (goes _ _ is ∙ ap (λ x. sections_form version_1 b (f + 1) x (n - (f + 1))) (sym end_is)));
      }

-- what comes behind the last
pub sections_end : (b : List ℕ) (n f at : ℕ) → SectionLoop b n f at → n ≤ f
    → sections_form version_1 b 0 header_size (r_functions b) ≡ cond (ltb at (length b)) (Err LeftOver) (Ok tt)
unfolding sections_form
sections_end b n f at w le = let q : n - f ≡ 0 = omega arith in w.same ∙ ap (sections_form version_1 b f at) q

-- once all have passed: the section k behind f has
each_passed : (L : Limits) (b : List ℕ) (f at n k : ℕ) → sections_form L b f at n ≡ Ok tt → at ≡ r_section_at (r_globals b) b f → k < n
    → section_form L b (f + k) (r_section_at (r_globals b) b (f + k)) ≡ Ok tt
unfolding sections_form r_section_at
each_passed L b f at zero k e q lt = absurd (omega arith)
each_passed L b f at (suc n) zero e q lt =
    let here = both _ _ e in
    let p : f + 0 ≡ f = omega arith in
    ap (λ x. section_form L b x (r_section_at (r_globals b) b x)) p ∙ (ap (section_form L b f) (sym q) ∙ here.0)
each_passed L b f at (suc n) (suc k) e q lt =
    let here = both _ _ e in
    let p : f + suc k ≡ suc f + k = omega arith in
    ap (λ x. section_form L b x (r_section_at (r_globals b) b x)) p
    ∙ each_passed L b (suc f) (r_section_end (r_globals b) b at) n k here.1 (ap (r_section_end (r_globals b) b) q) (omega arith)

-- a report's header, and the place of a section in a report
pub report_header : (b : List ℕ) → IsReport b → ValidHeader b
unfolding IsReport reading
report_header b e = header_valid b (both _ _ e).0

module _ (b : List ℕ) (f at : ℕ) (r : ValidPlace b f at) where
  section_passed : section_form version_1 b f at ≡ Ok tt
  unfolding IsReport reading r_section_at
  section_passed =
      let all = both _ _ r.is_report in
      let z : 0 + f ≡ f = omega arith in
      ap (section_form version_1 b f) r.begins
      ∙ (ap (λ x. section_form version_1 b x (r_section_at (r_globals b) b x)) (sym z)
      ∙ each_passed version_1 b 0 header_size (r_functions b) f all.1 refl r.there)

  pub section_room : at + section_header_size ≤ length b
  section_room = (section_within version_1 b f at section_passed).0

  pub section_valid : (h : Header) → HeaderResult b f at h → ValidSection b h
  section_valid h there =
      let end_is : h.end ≡ r_section_end (r_globals b) b at = there.layout.ends ∙ ap (r_section_end (r_globals b) b) there.placed in
      let fits = (section_within version_1 b f at section_passed).1 in
      record { layout = there.layout; within = omega arith; small = (report_header b r.is_report).small }

  pub next_at : (h : Header) → HeaderResult b f at h → h.end ≡ r_section_at (r_globals b) b (f + 1)
  unfolding r_section_at
  next_at h there =
      let p : suc f ≡ f + 1 = omega arith in
      there.layout.ends ∙ (ap (r_section_end (r_globals b) b) (there.placed ∙ r.begins) ∙ ap (r_section_at (r_globals b) b) p)
