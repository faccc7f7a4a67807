-- What holds of the bytes of a report, whole or so far: they read back as what was written (01, 7), and they are no more than may be (7.5).
use Prim.Native.Nat.{ℕ, zero, suc, ◌+◌, ◌≤◌, ◌<◌}
use native.Mathlib.Omega.{arith}
use mathlib.Core.List.{List, [], ◌∷◌, ◌++◌, append-nil, append_assoc}
use mathlib.Core.Path.{◌≡◌, refl, sym, ap, ◌∙◌, subst}
use lib.Dec.{lit<}
use lib.ListN.{length, get_or, drop, length-append, drop_of_length-le}
use lib.Seq.{drop-cons}
use borrow.Author.Tests.{ltb-false}
use Rattle.definitions.specs.Bytes.{byte, be16, be32, put16, put32}
use Rattle.definitions.specs.Limits.{Limits, Sound}
use Rattle.definitions.specs.Module.{globals, functions}
use Rattle.definitions.specs.Checks.{fine, ◌⇒◌}
use Rattle.definitions.specs.Summary.{Section, no_section, summary_of}
use Rattle.definitions.specs.Report.{concat_map, section_bytes, report_header, report, r_globals, r_functions, r_section_end, r_summary, r_section, r_section_at, section_in}
use Rattle.definitions.specs.Analyse.{report_fits, sections, accepted, analyse}
use Rattle.definitions.proofs.Fold.{bind_fine, fine_inj}
use Rattle.definitions.proofs.Passed.{passes}
use Rattle.definitions.proofs.Formed.{Formed}
use Rattle.definitions.proofs.Modules.{last_of, done_length, accepted_formed}
use Rattle.definitions.proofs.Reading.{Stands, stands_left, stands_right, stands_self, reads_end, reads_section}
use Rattle.definitions.proofs.Numbering.{sections_read}

-- an accepted module: its sections, of which its report is made
pub record Accepted (L : Limits) (m b : List ℕ) : Type 0 where
  pub done : List Section
  pub by_rules : accepted L m ≡ fine done
  pub bytes : report L m done ≡ b

pub accepting : (L : Limits) (m b : List ℕ) → analyse L m ≡ fine b → Accepted L m b
unfolding analyse
accepting L m b e = let a = bind_fine _ _ e in record { done = a.0; by_rules = a.1; bytes = fine_inj a.2 }

-- sections that stand in b from 9 on, each with one use for each of g globals, stand where the accessors look for them
module _ (b : List ℕ) (g : ℕ) (d : List Section) (standing : Stands b 9 (concat_map section_bytes d))
    (uses : (f : ℕ) → f < length d → length (get_or d f no_section).summary.uses ≡ g) where
  rest_stands : (f : ℕ) → f ≤ length d → Stands b (r_section_at g b f) (concat_map section_bytes (drop f d))
  unfolding r_section_at concat_map
  rest_stands zero h = standing
  rest_stands (suc f) h =
      let y = get_or d f no_section in
      let p = r_section_at g b f in
      let here : Stands b p (section_bytes y ++ concat_map section_bytes (drop (suc f) d)) = subst (λ v. Stands b p (concat_map section_bytes v)) (drop-cons d f no_section h) (rest_stands f (omega arith)) in
      let own = stands_left b p (section_bytes y) (concat_map section_bytes (drop (suc f) d)) here in
      let end : p + length (section_bytes y) ≡ r_section_end g b p = sym (ap (λ n. r_section_end n b p) (sym (uses f h)) ∙ reads_end b p y own) in
      subst (λ v. Stands b v (concat_map section_bytes (drop (suc f) d))) end (stands_right b p (section_bytes y) (concat_map section_bytes (drop (suc f) d)) here)

  pub section_stands : (f : ℕ) → f < length d → Stands b (r_section_at g b f) (section_bytes (get_or d f no_section))
  unfolding concat_map
  section_stands f h =
      let y = get_or d f no_section in
      let p = r_section_at g b f in
      stands_left b p (section_bytes y) (concat_map section_bytes (drop (suc f) d)) (subst (λ v. Stands b p (concat_map section_bytes v)) (drop-cons d f no_section h) (rest_stands f (omega arith)))

  -- and the next would begin behind the last
  pub next_section : (f : ℕ) → f ≤ length d → r_section_at g b f + length (concat_map section_bytes (drop f d)) ≡ 9 + length (concat_map section_bytes d)
  unfolding r_section_at concat_map
  next_section zero h = refl
  next_section (suc f) h =
      let y = get_or d f no_section in
      let p = r_section_at g b f in
      let rest = concat_map section_bytes (drop (suc f) d) in
      let ih = next_section f (omega arith) in
      let cut : length (concat_map section_bytes (drop f d)) ≡ length (section_bytes y) + length rest = ap (λ l. length (concat_map section_bytes l)) (drop-cons d f no_section h) ∙ length-append (section_bytes y) rest in
      let end : r_section_end g b p ≡ p + length (section_bytes y) = ap (λ n. r_section_end n b p) (sym (uses f h)) ∙ reads_end b p y (section_stands f h) in
      omega (arith, ih, cut, end)

-- of the functions that are done so far: what is written of them reads back as what the rules gave, wherever else the bytes come from. So a
-- callee's summary, uses and lists can be read straight out of the report
module _ (L : Limits) (sound : Sound L) (m : List ℕ) (formed : Formed L m) (n : ℕ) (some_functions : n ≤ functions m) (d : List Section)
    (by_rules : sections L m n ≡ fine d) (b : List ℕ) (standing : Stands b 9 (concat_map section_bytes d)) where
  uses_there : (f : ℕ) → f < length d → length (get_or d f no_section).summary.uses ≡ globals m
  uses_there f h = let len = done_length L m n d by_rules in (sections_read L sound m formed n some_functions d by_rules f (omega (arith, len, h))).a_use_each

  pub reads_so_far : (f : ℕ) → f < n → r_section (globals m) b (r_section_at (globals m) b f) ≡ get_or d f no_section
  reads_so_far f h =
      let len = done_length L m n d by_rules in
      let r = sections_read L sound m formed n some_functions d by_rules f h in
      let y = get_or d f no_section in
      let p = r_section_at (globals m) b f in
      ap (λ k. r_section k b p) (sym r.a_use_each) ∙ reads_section b p y (section_stands b (globals m) d standing uses_there f (omega (arith, len, h))) r.readable

  pub callee_reads : (f : ℕ) → f < n → r_summary (globals m) b (r_section_at (globals m) b f) ≡ summary_of d f
  unfolding summary_of r_section
  callee_reads f h = ap (λ y. y.summary) (reads_so_far f h)

  pub next_begins : r_section_at (globals m) b n ≡ 9 + length (concat_map section_bytes d)
  unfolding concat_map
  next_begins =
      let len = done_length L m n d by_rules in
      let e = next_section b (globals m) d standing uses_there n (omega (arith, len)) in
      let z : drop n d ≡ [] = drop_of_length-le d {i = n} (omega (arith, len)) in
      let q : length (concat_map section_bytes (drop n d)) ≡ 0 = ap (λ l. length (concat_map section_bytes l)) z in
      omega (arith, e, q)

header_length : (L : Limits) (m : List ℕ) (n : ℕ) → length (report_header L m n) ≡ 9
unfolding report_header put32 put16
header_length L m n = refl

module _ (L : Limits) (m : List ℕ) (d : List Section) where
  pub body_stands : Stands (report L m d) 9 (concat_map section_bytes d)
  unfolding report
  body_stands =
      let h = report_header L m (length (concat_map section_bytes d)) in
      let z : 0 + length h ≡ 9 = (let n = header_length L m (length (concat_map section_bytes d)) in omega arith) in
      subst (λ v. Stands (h ++ concat_map section_bytes d) v (concat_map section_bytes d)) z
      (stands_right (h ++ concat_map section_bytes d) 0 h (concat_map section_bytes d) (stands_self (h ++ concat_map section_bytes d)))

  pub length_read : be32 (report L m d) 0 ≡ 5 + length (concat_map section_bytes d)
  unfolding report report_header put32 put16 be32 be16 byte
  length_read = omega arith

  pub version_read : byte (report L m d) 4 ≡ L.version
  unfolding report report_header put32 put16 byte
  version_read = refl

  pub globals_read : r_globals (report L m d) ≡ globals m
  unfolding report report_header r_globals put32 put16 be16 byte
  globals_read = omega arith

  pub functions_read : r_functions (report L m d) ≡ functions m
  unfolding report report_header r_functions put32 put16 be16 byte
  functions_read = omega arith

-- how long a report is, and one with a section more
pub report_length : (L : Limits) (m : List ℕ) (d : List Section) → length (report L m d) ≡ 9 + length (concat_map section_bytes d)
unfolding report
report_length L m d =
    let n = length (concat_map section_bytes d) in
    let h = header_length L m n in
    length-append (report_header L m n) (concat_map section_bytes d) ∙ omega arith

pub concat_snoc : (d : List Section) (y : Section) → concat_map section_bytes (d ++ (y ∷ [])) ≡ concat_map section_bytes d ++ section_bytes y
unfolding concat_map
concat_snoc [] y = append-nil (section_bytes y)
concat_snoc (x ∷ d) y = ap (λ l. section_bytes x ++ l) (concat_snoc d y) ∙ sym (append_assoc (section_bytes x) (concat_map section_bytes d) (section_bytes y))

-- of the whole report
module _ (L : Limits) (sound : Sound L) (m : List ℕ) (d : List Section) (by_rules : accepted L m ≡ fine d) where
  pub reads_back : (f : ℕ) → f < functions m → section_in (report L m d) f ≡ get_or d f no_section
  unfolding section_in accepted
  reads_back f h =
      let a = bind_fine _ _ by_rules in
      ap (λ k. r_section k (report L m d) (r_section_at k (report L m d) f)) (globals_read L m d)
      ∙ reads_so_far L sound m (accepted_formed L m d by_rules) (functions m) (omega arith) d a.2 (report L m d) (body_stands L m d) f h

  empty_length : length (report L m []) ≡ 9
  unfolding report report_header put32 put16 concat_map
  empty_length = refl

  fits_up_to : (n : ℕ) (done : List Section) → sections L m n ≡ fine done → length (report L m done) ≤ L.report
  unfolding sections report_fits ◌⇒◌
  fits_up_to zero done e =
      let h = sound.header_has_room in
      subst (λ v. length (report L m v) ≤ L.report) (fine_inj e) (omega (arith, empty_length, h))
  fits_up_to (suc n) done e =
      let r = last_of L m n done e in
      subst (λ v. length (report L m v) ≤ L.report) r.all (ltb-false _ _ (passes (report_fits L m n _) r.fits.1 0 (lit< tt)))

  pub report_in_limit : length (report L m d) ≤ L.report
  unfolding accepted
  report_in_limit = let a = bind_fine _ _ by_rules in fits_up_to (functions m) d a.2
