-- The end of a run (01, 8.2 and 9): which refusal comes first, and what the lent bytes are once all behind the report is cleared.
use Prim.Native.Nat.{ℕ, ◌-◌, ◌≤◌, ◌<◌}
use native.Mathlib.Omega.{arith}
use mathlib.Core.Bool.{Bool, true, false}
use mathlib.Core.List.{List, [], ◌∷◌, ◌++◌}
use mathlib.Core.Path.{◌≡◌, refl, sym, ap, ◌∙◌, subst}
use lib.Dec.{ltb}
use lib.ListN.{length, take, drop, replicate, length-append, length-drop}
use lib.Seq.{length-take-le}
use borrow.Author.Tests.{lt-ltb, le-ltb}
use Rattle.definitions.specs.Limits.{version_1}
use Rattle.definitions.specs.Bytes.{put16, put32}
use Rattle.definitions.specs.Module.{globals, functions}
use Rattle.definitions.specs.Checks.{Refusal, refusal, Checked, fine, refused, ◌>>=◌, ◌⇒◌, first}
use Rattle.definitions.specs.Form.{form}
use Rattle.definitions.specs.Report.{report}
use Rattle.definitions.specs.Summary.{Section}
use Rattle.definitions.specs.Analyse.{sections, accepted, analyse}
use Rattle.definitions.specs.Answer.{lent, run_outcome, answer, lent_report, lent_work, Ran}
use Rattle.vocabulary.specs.Said.{step_said, refusal_said}
use Rattle.vocabulary.specs.declared.refusal.Refusal as words
use Rattle.vocabulary.specs.declared.refusal.Refusal.TheVariants as refusals
use Rattle.memory.specs.Layout.{size}
use Rattle.report.specs.Laid.{BytesPut}
use Rattle.rules_pairs.specs.States.{callees}
use Rattle.std.specs.Prelude.{Result, Ok, Err}
use Rattle.std.specs.Array.{IsFirstChunk}
use Rattle.analyzer.specs.Said.{Answer, answer_said, outcome_said, kept_of}
use Rattle.analyzer.specs.Run.{RunResult, ValidRun, SectionsWritten, SectionsAfter, WriteResult}
use Rattle.analyzer.proofs.ReportGrowth.{all_done}

-- 9.3 the answer, and the lent report
answers : (a : Answer) (o : Checked (List ℕ)) (b : List ℕ) → outcome_said a b ≡ o → kept_of a ≤ length b → answer_said a ≡ answer o
unfolding answer
answers (Ok n) o b e h = ap fine (sym (length-take-le n b h)) ∙ ap answer e
answers (Err r) o b e h = ap answer e

reports : (a : Answer) (o : Checked (List ℕ)) (b : List ℕ) (n : ℕ) → outcome_said a b ≡ o → kept_of a ≤ length b → length b ≡ n
    → take (kept_of a) b ++ replicate (length b - kept_of a) 0 ≡ lent_report n o
unfolding lent_report
reports (Ok k) o b n e h l =
    let z : length b - k ≡ n - length (take k b) = omega (arith, length-take-le k b h) in
    ap (λ x. take k b ++ replicate x 0) z ∙ ap (lent_report n) e
reports (Err r) o b n e h l =
    let z : length b - 0 ≡ n = omega arith in
    ap (λ x. replicate x 0) z ∙ ap (lent_report n) e

pub run_ends : (m report work report₁ work₁ report₂ work₂ : List ℕ) (a : Answer) (k : ℕ)
    → RunResult (run_outcome version_1 m (length report) (length work)) report report₁ work work₁ a → k ≡ kept_of a
    → report₂ ≡ take k report₁ ++ replicate (length report₁ - k) 0 → work₂ ≡ take 0 work₁ ++ replicate (length work₁ - 0) 0
    → Ran version_1 m report work (answer_said a) report₂ work₂
unfolding lent_work
run_ends m report work report₁ work₁ report₂ work₂ a k g q p c = record {
  answers = answers a _ report₁ g.says g.fits;
  reports = p ∙ (ap (λ x. take x report₁ ++ replicate (length report₁ - x) 0) q ∙ reports a _ report₁ (length report) g.says g.fits g.report_long);
  clears = c ∙ ap (λ x. replicate {A = ℕ} x 0) (let z : length work₁ - 0 ≡ length work = omega (arith, g.work_long) in z);
}

-- 8.2 1 before all else
pub report_too_short : (m : List ℕ) (r w : ℕ) → r < 65536 → refused (refusal 1 0 0) ≡ run_outcome version_1 m r w
unfolding run_outcome lent first ◌⇒◌ ◌>>=◌ version_1
report_too_short m r w h =
    sym (ap (λ v. first ((v ⇒ refusal 1 0 0) ∷ (ltb w 22016 ⇒ refusal 1 0 0) ∷ []) >>= λ _. analyse version_1 m) (lt-ltb r 65536 h))

second : (m : List ℕ) (r w : ℕ) (b : Bool) → 65536 ≤ r → ltb w 22016 ≡ b
    → run_outcome version_1 m r w ≡ (first ((false ⇒ refusal 1 0 0) ∷ (b ⇒ refusal 1 0 0) ∷ []) >>= λ _. analyse version_1 m)
unfolding run_outcome lent version_1
second m r w b h k =
    ap (λ v. first ((v ⇒ refusal 1 0 0) ∷ (ltb w 22016 ⇒ refusal 1 0 0) ∷ []) >>= λ _. analyse version_1 m) (le-ltb r 65536 h)
    ∙ ap (λ v. first ((false ⇒ refusal 1 0 0) ∷ (v ⇒ refusal 1 0 0) ∷ []) >>= λ _. analyse version_1 m) k

pub work_too_short : (m : List ℕ) (r w : ℕ) → 65536 ≤ r → w < 22016 → refused (refusal 1 0 0) ≡ run_outcome version_1 m r w
unfolding first ◌⇒◌ ◌>>=◌
work_too_short m r w h k = sym (second m r w true h (lt-ltb w 22016 k))

pub long_enough : (m : List ℕ) (r w : ℕ) → 65536 ≤ r → 22016 ≤ w → analyse version_1 m ≡ run_outcome version_1 m r w
unfolding first ◌⇒◌ ◌>>=◌
long_enough m r w h k = sym (second m r w false h (le-ltb w 22016 k))

pub lent_short_report : (m report work : List ℕ) → length report < 65536
    → RunResult (run_outcome version_1 m (length report) (length work)) report report work work (Err refusals.Lent)
lent_short_report m report work h =
    record { says = report_too_short m (length report) (length work) h; fits = omega arith; report_long = refl; work_long = refl }

pub lent_short_work : (m report work : List ℕ) → 65536 ≤ length report → length work < 22016
    → RunResult (run_outcome version_1 m (length report) (length work)) report report work work (Err refusals.Lent)
lent_short_work m report work h k =
    record { says = work_too_short m (length report) (length work) h k; fits = omega arith; report_long = refl; work_long = refl }

-- then the form, then the rules
pub not_formed : (m : List ℕ) (r : Refusal) → refused r ≡ form version_1 m → refused r ≡ analyse version_1 m
unfolding analyse accepted ◌>>=◌
not_formed m r e = rw (← e)

pub not_by_rules : (m : List ℕ) (r : Refusal) → form version_1 m ≡ fine tt → sections version_1 m (functions m) ≡ refused r → refused r ≡ analyse version_1 m
unfolding analyse accepted ◌>>=◌
not_by_rules m r e q = rw (e, q)

pub by_rules : (m : List ℕ) (d : List Section) → form version_1 m ≡ fine tt → sections version_1 m (functions m) ≡ fine d → fine (report version_1 m d) ≡ analyse version_1 m
unfolding analyse accepted ◌>>=◌
by_rules m d e q = rw (e, q)

pub form_refused : (m : List ℕ) {report work : List ℕ} {x : Result (Unit {0}) words.Refusal} {r : words.Refusal} → step_said x ≡ form version_1 m → x ≡ Err r
    → RunResult (analyse version_1 m) report report work work (Err r)
form_refused m {r = r} e q = record { says = not_formed m (refusal_said r) (ap step_said (sym q) ∙ e); fits = omega arith; report_long = refl; work_long = refl }

pub form_passed : {m report work : List ℕ} {x : Result (Unit {0}) words.Refusal} → 65536 ≤ length report → 22016 ≤ length work → step_said x ≡ form version_1 m → x ≡ Ok tt → ValidRun m report work
unfolding size
form_passed h k e q = record { formed = sym e ∙ ap step_said q; report_room = h; work_room = k }

pub rules_done : (m : List ℕ) {report report' work work' : List ℕ} {a : Answer} → 65536 ≤ length report → 22016 ≤ length work → RunResult (analyse version_1 m) report report' work work' a
    → RunResult (run_outcome version_1 m (length report) (length work)) report report' work work' a
rules_done m {report} {report'} {work} h k g = record {
  says = g.says ∙ long_enough m (length report) (length work) h k;
  fits = g.fits;
  report_long = g.report_long;
  work_long = g.work_long;
}

-- the rules' outcome
pub module_refused : {m report report' work work' : List ℕ} {w : Result ℕ words.Refusal} {r : words.Refusal} → ValidRun m report work → length work ≡ size
    → WriteResult m (functions m) report report' work' w → w ≡ Err r → RunResult (analyse version_1 m) report report' work work' (Err r)
module_refused {m} {report} {report'} {work} {work'} {w} {r} p l g e = record {
  says = not_by_rules m (refusal_said r) p.formed (subst (SectionsAfter m (functions m) report' work') e g.after);
  fits = omega arith;
  report_long = g.report_long;
  work_long = g.work_long ∙ sym l;
}

pub written_to : {m : List ℕ} {f : ℕ} {report report' work' : List ℕ} {w : Result ℕ words.Refusal} {out : ℕ} → WriteResult m f report report' work' w → w ≡ Ok out → SectionsWritten m f report' work' out
written_to {m} {f} {report} {report'} {work'} g e = subst (SectionsAfter m f report' work') e g.after

pub module_done : {m report report₁ report₂ work work₁ : List ℕ} {w : Result ℕ words.Refusal} {out g f : ℕ} → ValidRun m report work → length work ≡ size
    → WriteResult m (functions m) report report₁ work₁ w → w ≡ Ok out → g ≡ globals m → f ≡ functions m
    → BytesPut report₁ report₂ 0 (put32 (out - 4) ++ (1 ∷ []) ++ put16 g ++ put16 f) → RunResult (analyse version_1 m) report report₂ work work₁ (Ok out)
module_done {m} {report} {report₁} {report₂} {work} {work₁} {w} {out} {g} {f} p l h e eg ef put =
    let s = written_to h e in
    record {
      says = ap fine (all_done m report₁ work₁ out s (omega (arith, h.report_long, p.report_room)) report₂ g f eg ef put.is)
          ∙ by_rules m (callees m (functions m) report₁ work₁) p.formed s.by_rules;
      fits = omega (arith, s.short, put.long, h.report_long, p.report_room);
      report_long = put.long ∙ h.report_long;
      work_long = h.work_long ∙ sym l;
    }

-- as much of the lent working memory as the rules ask for: the rest comes back as it was
pub chunk_long : {work part : List ℕ} → IsFirstChunk work part 22016 → length part ≡ 22016
chunk_long {work} {part} f = ap length f.same ∙ length-take-le 22016 work f.enough

pub whole_back : {o : Checked (List ℕ)} {report report' part part' work : List ℕ} {a : Answer} → IsFirstChunk work part 22016 → RunResult o report report' part part' a
    → RunResult o report report' work (part' ++ drop 22016 work) a
whole_back {part' = part'} {work = work} f g = record {
  says = g.says;
  fits = g.fits;
  report_long = g.report_long;
  work_long = length-append part' (drop 22016 work) ∙ omega (arith, g.work_long, chunk_long f, f.enough, length-drop 22016 work);
}
