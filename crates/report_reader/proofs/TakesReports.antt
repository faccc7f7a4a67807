-- `reading` takes every report that `analyse` gives, at any limits that the report's form allows; and what it reads of
-- each function is the section that was written. Nothing is supposed but that the module was accepted.
use Prim.Native.Nat.{ℕ, suc, ◌+◌, ◌≤◌, ◌<◌}
use native.Mathlib.Omega.{arith}
use mathlib.Core.Path.{◌≡◌, refl, sym, ap, subst, ◌∙◌}
use mathlib.Core.Bool.{not}
use mathlib.Core.List.{List}
use lib.Dec.{ltb, eqb}
use lib.ListN.{length, get_or, take}
use borrow.Author.Tests.{le-ltb, eq-eqb}
use Rattle.definitions.specs.Bytes.{byte, be32}
use Rattle.definitions.specs.Limits.{Limits, Sound, version_1, version_1_sound}
use Rattle.definitions.specs.Module.{globals, functions}
use Rattle.definitions.specs.Checks.{fine}
use Rattle.definitions.specs.Ends.{Pair}
use Rattle.definitions.specs.Summary.{Section, Entry, no_section}
use Rattle.definitions.specs.Report.{section_bytes, report, r_globals, r_functions, r_origin, r_requirements, r_may_kill, r_use, r_section, r_section_at, section_in}
use Rattle.definitions.specs.Analyse.{accepted, analyse}
use Rattle.definitions.specs.Answer.{Ran}
use Rattle.definitions.proofs.Fold.{bind_fine}
use Rattle.definitions.proofs.Formed.{Formed}
use Rattle.definitions.proofs.Modules.{accepted_formed, accepted_length}
use Rattle.definitions.proofs.Reading.{Stands}
use Rattle.definitions.proofs.Within.{SectionWithin, accepted_within}
use Rattle.definitions.proofs.Reports.{accepting, section_stands, next_section, next_begins, body_stands, length_read, version_read, globals_read, functions_read, report_length, reads_back, report_in_limit}
use Rattle.definitions.proofs.Answers.{ran_accepts}
use Rattle.definitions.proofs.Theorems.{read_back}
use Rattle.std.specs.Prelude.{Ok}
use Rattle.report_reader.specs.declared.section.Section as code
use Rattle.report_reader.specs.Reading.{header_form, pair_in, mixed_in, entry_in, reading}
use Rattle.report_reader.specs.Sections.{IsReport, ValidPlace, SectionLayout}
use Rattle.report_reader.specs.Found.{SectionResult}
use Rattle.report_reader.proofs.FirstFault.{pass, goes}
use Rattle.report_reader.proofs.AsWritten.{origin_is, requirements_are, may_kill_is, a_use_each, use_is, pair_count_is, pair_is, mixed_count_is, mixed_is, expressions_are, entry_is}
use Rattle.report_reader.proofs.RightSections.{ends_at, section_right, sections_right}

-- of an accepted module
module _ (L : Limits) (sound : Sound L) (m : List ℕ) (d : List Section) (by_rules : accepted L m ≡ fine d) where
  abbrev bytes : List ℕ
  bytes = report L m d

  form : Formed L m
  form = accepted_formed L m d by_rules

  within : (f : ℕ) → f < functions m → SectionWithin L m f (get_or d f no_section)
  within = accepted_within L m d by_rules

  uses : (f : ℕ) → f < length d → length (get_or d f no_section).summary.uses ≡ globals m
  uses f h = let n = accepted_length L m d by_rules in (within f (omega arith)).a_use_each

  same : r_globals bytes ≡ globals m
  same = globals_read L m d

  -- where sections begin, by the bytes' own number of globals
  begins : (f : ℕ) → r_section_at (globals m) bytes f ≡ r_section_at (r_globals bytes) bytes f
  begins f = ap (λ g. r_section_at g bytes f) (sym same)

  stands : (f : ℕ) → f < functions m → Stands bytes (r_section_at (r_globals bytes) bytes f) (section_bytes (get_or d f no_section))
  stands f h =
      let n = accepted_length L m d by_rules in
      subst (λ p. Stands bytes p (section_bytes (get_or d f no_section))) (begins f) (section_stands bytes (globals m) d (body_stands L m d) uses f (omega arith))

  reads : (f : ℕ) → f < functions m → r_section (r_globals bytes) bytes (r_section_at (r_globals bytes) bytes f) ≡ get_or d f no_section
  unfolding section_in
  reads = reads_back L sound m d by_rules

  -- each section lies within the bytes, and the last one ends where they do
  fits : (f : ℕ) → f < functions m → r_section_at (r_globals bytes) bytes f + length (section_bytes (get_or d f no_section)) ≤ length bytes
  unfolding r_section_at
  fits f h =
      let n = accepted_length L m d by_rules in
      let l = report_length L m d in
      let next = next_section bytes (globals m) d (body_stands L m d) uses (suc f) (omega arith) in
      let at = begins (suc f) in
      let end = ends_at L m f (form.each_sheet f h) bytes (r_section_at (r_globals bytes) bytes f) (get_or d f no_section) same (stands f h) (reads f h) (within f h) in
      omega (arith, next, at, end, l)

  all_read : length bytes ≤ r_section_at (r_globals bytes) bytes (r_functions bytes)
  unfolding accepted
  all_read =
      let a = bind_fine _ _ by_rules in
      let l = report_length L m d in
      let next = next_begins L sound m form (functions m) (omega arith) d a.2 bytes (body_stands L m d) in
      let at : r_section_at (globals m) bytes (functions m) ≡ r_section_at (r_globals bytes) bytes (r_functions bytes) = begins (functions m) ∙ ap (r_section_at (r_globals bytes) bytes) (sym (functions_read L m d)) in
      omega (arith, next, at, l)

  header_right : header_form L bytes ≡ Ok tt
  header_right =
      let n = report_length L m d in
      let k = report_in_limit L sound m d by_rules in
      let l = length_read L m d in
      let g = same in
      let f = functions_read L m d in
      let few_globals = form.few_globals in
      let few_functions = form.few_functions in
      pass (ltb (length bytes) 9) _ _ (le-ltb (length bytes) 9 (omega arith))
      ∙ (pass (ltb L.report (length bytes)) _ _ (le-ltb L.report (length bytes) k)
      ∙ (pass (not (eqb (be32 bytes 0 + 4) (length bytes))) _ _ (ap not (eq-eqb (be32 bytes 0 + 4) (length bytes) (omega arith)))
      ∙ (pass (not (eqb (byte bytes 4) L.version)) _ _ (ap not (eq-eqb (byte bytes 4) L.version (version_read L m d)))
      ∙ (pass (ltb L.globals (r_globals bytes)) _ _ (le-ltb L.globals (r_globals bytes) (omega arith))
      ∙ pass (ltb L.functions (r_functions bytes)) _ _ (le-ltb L.functions (r_functions bytes) (omega arith))))))

  taken : reading L bytes ≡ Ok tt
  unfolding reading r_section_at
  taken =
      goes (header_form L bytes) _ header_right ∙ sections_right L bytes (r_functions bytes) 0 (r_functions bytes)
      (λ f h.
      let n = functions_read L m d in
      let lt : f < functions m = omega arith in
      section_right L m f (form.each_sheet f lt) bytes (r_section_at (r_globals bytes) bytes f) (get_or d f no_section) same (stands f lt) (reads f lt) (within f lt) (fits f lt))
      all_read (omega arith)

-- Every report that the rules give is taken
pub takes_every_report : (L : Limits) → Sound L → (m b : List ℕ) → analyse L m ≡ fine b → reading L b ≡ Ok tt
takes_every_report L sound m b h =
    let a = accepting L m b h in
    subst (λ v. reading L v ≡ Ok tt) a.bytes (taken L sound m a.done a.by_rules)

-- The code's section s of the bytes b says what the rules' section y says: as many of each part, and each record of
-- them. On the left stands what the methods of `Section` promise to answer
pub record SectionAsWritten (b : List ℕ) (s : code.Section) (y : Section) : Type 0 where
  pub globals_are : s.header.globals ≡ length y.summary.uses
  pub expressions_are : s.header.expressions ≡ length y.entries
  pub pairs_are : s.header.pairs ≡ length y.summary.lists.pairs
  pub mixed_are : s.header.mixed ≡ length y.summary.lists.mixed
  pub origin_is : r_origin b s.header.at ≡ y.summary.origin
  pub requirements_are : r_requirements b s.header.at ≡ y.summary.requirements
  pub may_kill_is : r_may_kill b s.header.at ≡ y.summary.may_kill
  pub use_is : (g : ℕ) → g < s.header.globals → r_use b s.header.at g ≡ get_or y.summary.uses g 0
  pub pair_is : (i : ℕ) (d : Pair) → i < s.header.pairs → pair_in b s.header.at i ≡ get_or y.summary.lists.pairs i d
  pub mixed_is : (i : ℕ) (d : Pair) → i < s.header.mixed → mixed_in b s.header.at i ≡ get_or y.summary.lists.mixed i d
  pub entry_is : (e : ℕ) (d : Entry) → e < s.header.expressions → entry_in b s.header.at e ≡ get_or y.entries e d

-- The rules' sections, and what is read of each function that the module has
pub record ReportAsWritten (L : Limits) (m b : List ℕ) : Type 0 where
  pub done : List Section
  pub by_rules : accepted L m ≡ fine done
  pub says : (f : ℕ) → f < functions m → (s : code.Section) → SectionResult b f s → SectionAsWritten b s (get_or done f no_section)

found_says : (b : List ℕ) (f : ℕ) (s : code.Section) (y : Section) → SectionResult b f s → section_in b f ≡ y → SectionAsWritten b s y
unfolding section_in
found_says b f s y found read =
    let l : SectionLayout b s.header = subst (λ v. SectionLayout v s.header) found.bytes_are s.valid.layout in
    let g = r_globals b in
    let p = s.header.at in
    let at : p ≡ r_section_at g b f = l.begins ∙ ap (r_section_at g b) found.named in
    let is : r_section g b p ≡ y = ap (r_section g b) at ∙ read in
    let e = l.expressions_are in
    let n = l.pairs_are in
    let k = l.mixed_are in
    let u = l.globals_are in
    record {
      globals_are = u ∙ a_use_each g b p y is;
      expressions_are = e ∙ expressions_are g b p y is;
      pairs_are = n ∙ pair_count_is g b p y is;
      mixed_are = k ∙ mixed_count_is g b p y is;
      origin_is = origin_is g b p y is;
      requirements_are = requirements_are g b p y is;
      may_kill_is = may_kill_is g b p y is;
      use_is = λ i h. use_is g b p y is i (omega arith);
      pair_is = λ i d h. pair_is g b p y is i d (omega arith);
      mixed_is = λ i d h. mixed_is g b p y is i d (omega arith);
      entry_is = λ i d h. entry_is g b p y is i d (omega arith);
    }

-- What is read of each function is the section that was written of it
pub reads_what_was_written : (L : Limits) → Sound L → (m b : List ℕ) → analyse L m ≡ fine b → ReportAsWritten L m b
reads_what_was_written L sound m b h =
    let r = read_back L sound m b h in
    record { done = r.0; by_rules = r.1; says = λ f lt s found. found_says b f s (get_or r.0 f no_section) found (r.4 f lt) }

-- At version 1's limits
module _ (m b : List ℕ) (h : analyse version_1 m ≡ fine b) where
  pub takes_every_report_of_version_1 : reading version_1 b ≡ Ok tt
  takes_every_report_of_version_1 = takes_every_report version_1 version_1_sound m b h

  -- what `section_of` asks is met, of each function that the module has
  pub section_reads_of_version_1 : (f : ℕ) → f < functions m → ValidPlace b f (r_section_at (r_globals b) b f)
  unfolding IsReport
  section_reads_of_version_1 f lt =
      let r = read_back version_1 version_1_sound m b h in
      let n = r.3 in
      record { is_report = takes_every_report_of_version_1; there = omega arith; begins = refl }

  pub reads_what_was_written_of_version_1 : ReportAsWritten version_1 m b
  reads_what_was_written_of_version_1 = reads_what_was_written version_1 version_1_sound m b h

-- And of a run of `analyse` that met its promise and answered with a report of n bytes, which stands at the start of what
-- was lent
module _ {m lent work lent' work' : List ℕ} {n : ℕ} (ran : Ran version_1 m lent work (fine n) lent' work') where
  pub run_is_taken : reading version_1 (take n lent') ≡ Ok tt
  run_is_taken = takes_every_report_of_version_1 m (take n lent') (ran_accepts version_1 ran)

  pub run_section_reads : (f : ℕ) → f < functions m → ValidPlace (take n lent') f (r_section_at (r_globals (take n lent')) (take n lent') f)
  run_section_reads = section_reads_of_version_1 m (take n lent') (ran_accepts version_1 ran)

  pub run_reads_what_was_written : ReportAsWritten version_1 m (take n lent')
  run_reads_what_was_written = reads_what_was_written_of_version_1 m (take n lent') (ran_accepts version_1 ran)
