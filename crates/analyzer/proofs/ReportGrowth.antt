-- The report while it grows (01, 6.3 and 6.4): one function more.
use Prim.Native.Nat.{ℕ, suc, ◌+◌, ◌*◌, ◌-◌, ◌≤◌, ◌<◌}
use native.Mathlib.Omega.{arith}
use native.Mathlib.Numerals.{add-one}
use mathlib.Core.Bool.{Bool, true, false}
use mathlib.Core.List.{List, [], ◌∷◌, ◌++◌}
use mathlib.Core.Path.{◌≡◌, refl, sym, ap, ◌∙◌, subst}
use lib.Dec.{ltb, eqb}
use lib.ListN.{length, take, length-append}
use borrow.Author.Tests.{lt-ltb, le-ltb, eqb-true, eqb-false}
use Rattle.definitions.specs.Bytes.{put16, put32}
use Rattle.definitions.specs.Limits.{version_1, version_1_sound}
use Rattle.definitions.specs.Module.{globals, functions}
use Rattle.definitions.specs.Checks.{refusal, fine, refused, ◌>>=◌, ◌⇒◌, first}
use Rattle.definitions.specs.Report.{concat_map, section_bytes, report_header, report}
use Rattle.definitions.specs.Summary.{Section}
use Rattle.definitions.specs.Walk.{Walked}
use Rattle.definitions.specs.Analyse.{function_run, section_of, report_fits, sections}
use Rattle.definitions.proofs.Formed.{Formed}
use Rattle.definitions.proofs.Modules.{done_length}
use Rattle.definitions.proofs.Reading.{Stands}
use Rattle.definitions.proofs.Reports.{report_length, concat_snoc}
use Rattle.memory.specs.Layout.{sections_at}
use Rattle.memory.specs.Changes.{table, section_at, with_section}
use Rattle.memory.proofs.Sections.{section_same, section_other}
use Rattle.report.specs.Laid.{laid}
use Rattle.report.specs.Places.{section_place}
use Rattle.report.proofs.Stands.{stands_both, stands_laid, stands_laid_apart, stands_taken}
use Rattle.report.proofs.Laid.{length_laid}
use Rattle.report.proofs.Lengths.{length_report_header}
use Rattle.report.proofs.Writers.{header_is}
use Rattle.report.proofs.Sections.{place_kept, place_last, told_there}
use Rattle.rules_pairs.specs.States.{callees}
use Rattle.analyzer.specs.Run.{SectionsWritten}

-- what is known of the sections so far, by any other name for them
pub so_far_of : (m : List ℕ) (f : ℕ) (b w : List ℕ) (out : ℕ) (d : List Section) → Formed version_1 m → f ≤ functions m → sections version_1 m f ≡ fine d
    → Stands b 9 (concat_map section_bytes d) → ((g : ℕ) → g < f → section_at (table w) g ≡ section_place d g)
    → out ≡ 9 + length (concat_map section_bytes d) → out ≤ 65536 → SectionsWritten m f b w out
unfolding callees
so_far_of m f b w out d formed some done standing places next short =
    let e : d ≡ callees m f b w = sym (told_there version_1 version_1_sound m formed f some d done b standing (table w) places) in
    record {
      by_rules = done ∙ ap fine e;
      stands = subst (λ v. Stands b 9 (concat_map section_bytes v)) e standing;
      places = λ g lt. places g lt ∙ ap (λ v. section_place v g) e;
      next = next ∙ ap (λ v. 9 + length (concat_map section_bytes v)) e;
      short = short;
    }

-- nothing is written yet
pub none_so_far : (m b w : List ℕ) (out : ℕ) → Formed version_1 m → out ≡ 9 → SectionsWritten m 0 b w out
unfolding sections Stands concat_map
none_so_far m b w out formed e =
    so_far_of m 0 b w out [] formed (omega arith) refl (λ k h. absurd (omega arith)) (λ g h. absurd (omega arith)) e (omega arith)

-- one function more, whose run has come to a
module _ (m : List ℕ) (f : ℕ) (b w : List ℕ) (out : ℕ) (so_far : SectionsWritten m f b w out) (a : Walked)
    (ran : function_run version_1 m (callees m f b w) f ≡ fine a) (n : ℕ) (sized : length (section_bytes (section_of m f a)) ≡ n) where
  abbrev pub done : List Section
  done = callees m f b w

  abbrev pub y : Section
  y = section_of m f a

  abbrev pub more : List Section
  more = done ++ (y ∷ [])

  stepped : sections version_1 m (suc f) ≡ (first (report_fits version_1 m f more) >>= λ _. fine more)
  unfolding sections ◌>>=◌
  stepped = rw (so_far.by_rules, ran)

  long : length (report version_1 m more) ≡ out + n
  long =
      report_length version_1 m more
      ∙ (ap (λ l. 9 + length l) (concat_snoc done y)
      ∙ omega (arith, length-append (concat_map section_bytes done) (section_bytes y), so_far.next, sized))

  fitting : (v : Bool) → ltb 65536 (length (report version_1 m more)) ≡ v
      → sections version_1 m (suc f) ≡ (first ((v ⇒ refusal 14 f 0) ∷ []) >>= λ _. fine more)
  unfolding report_fits version_1
  fitting v e = stepped ∙ ap (λ t. first ((t ⇒ refusal 14 f 0) ∷ []) >>= λ _. fine more) e

  -- 6.4 14 where the report would be too long
  pub too_long : 65536 < out + n → sections version_1 m (f + 1) ≡ refused (refusal 14 f 0)
  unfolding first ◌⇒◌ ◌>>=◌
  too_long h = ap (sections version_1 m) (add-one f) ∙ fitting true (lt-ltb 65536 (length (report version_1 m more)) (omega (arith, long)))

  short_enough : out + n ≤ 65536 → sections version_1 m (f + 1) ≡ fine more
  unfolding first ◌⇒◌ ◌>>=◌
  short_enough h = ap (sections version_1 m) (add-one f) ∙ fitting false (le-ltb 65536 (length (report version_1 m more)) (omega (arith, long)))

  module _ (formed : Formed version_1 m) (there : f < functions m) (room : 65536 ≤ length b) (short : out + n ≤ 65536)
      (w' : List ℕ) (kept : table w' ≡ table w) (few : sections_at + 4 * f + 4 ≤ length w') where
    stands_more : Stands (laid b out (section_bytes y)) 9 (concat_map section_bytes more)
    stands_more =
        subst (Stands (laid b out (section_bytes y)) 9) (sym (concat_snoc done y))
        (stands_both (laid b out (section_bytes y)) 9 (concat_map section_bytes done) (section_bytes y) out so_far.next
        (stands_laid_apart b out (section_bytes y) 9 (concat_map section_bytes done) (λ u v. omega (arith, so_far.next)) so_far.stands)
        (stands_laid b out (section_bytes y) (omega (arith, sized))))

    many : length done ≡ f
    many = done_length version_1 m f done so_far.by_rules

    place_more : (g : ℕ) → g < f + 1 → section_at (table (with_section w' f out)) g ≡ section_place more g
    place_more g lt = go (eqb g f) refl
      where
        here : section_at (table (with_section w' f out)) f ≡ section_place more f
        here =
            section_same w' f out few
            ∙ (so_far.next ∙ (sym (place_last done) ∙ (ap (section_place done) many ∙ sym (place_kept done (y ∷ []) f (omega (arith, many))))))

        go : (v : Bool) → eqb g f ≡ v → section_at (table (with_section w' f out)) g ≡ section_place more g
        go true e = subst (λ k. section_at (table (with_section w' f out)) k ≡ section_place more k) (sym (eqb-true g f e)) here
        go false e =
            let ne : g ≡ f → ⊥ = eqb-false g f e in
            let below : g < f = omega arith in
            section_other w' f out g ne
            ∙ (ap (λ t. section_at t g) kept ∙ (so_far.places g below ∙ sym (place_kept done (y ∷ []) g (omega (arith, many)))))

    pub one_more : SectionsWritten m (f + 1) (laid b out (section_bytes y)) (with_section w' f out) (out + n)
    one_more =
        so_far_of m (f + 1) (laid b out (section_bytes y)) (with_section w' f out) (out + n) more formed (omega arith) (short_enough short) stands_more place_more
        (omega (arith, long, report_length version_1 m more)) short

-- all functions are done, and the header is laid before their sections: the report stands at the start of the bytes
pub all_done : (m b w : List ℕ) (out : ℕ) → SectionsWritten m (functions m) b w out → 65536 ≤ length b → (b' : List ℕ) (g f : ℕ) → g ≡ globals m → f ≡ functions m
    → b' ≡ laid b 0 (put32 (out - 4) ++ (1 ∷ []) ++ put16 g ++ put16 f)
    → take out b' ≡ report version_1 m (callees m (functions m) b w)
unfolding report
all_done m b w out h room b' g f eg ef e =
    let d = callees m (functions m) b w in
    let body = concat_map section_bytes d in
    let header = report_header version_1 m (length body) in
    let nine : length header ≡ 9 = length_report_header version_1 m (length body) in
    let is : b' ≡ laid b 0 header = e ∙ ap (laid b 0) (header_is m (length body) out g f h.next eg ef) in
    let stands : Stands (laid b 0 header) 0 (header ++ body) =
    stands_both (laid b 0 header) 0 header body 9 (omega (arith, nine)) (stands_laid b 0 header (omega (arith, nine)))
    (stands_laid_apart b 0 header 9 body (λ u v. omega (arith, nine)) h.stands) in
    let many : length (header ++ body) ≡ out = length-append header body ∙ omega (arith, nine, h.next) in
    ap (take out) is
    ∙ (ap (λ k. take k (laid b 0 header)) (sym many)
    ∙ stands_taken (laid b 0 header) 0 (header ++ body) stands (omega (arith, many, length_laid b 0 header, h.short)))
