-- What a user of `analyse` can rely on. Each line supposes runs that met their promise, `Ran`, as the contract of
-- `analyse` says of every run, and what they answered; nothing else. The report is the first n bytes of the lent one.
use Prim.Native.Nat.{ℕ, ◌-◌, ◌≤◌, ◌<◌}
use native.Mathlib.Omega.{arith}
use mathlib.Core.List.{List, ◌++◌}
use mathlib.Core.Path.{◌≡◌, refl, sym, ap, ap₂, ◌∙◌}
use lib.ListN.{length, take, replicate}
use Rattle.definitions.specs.Limits.{version_1}
use Rattle.definitions.specs.Module.{functions}
use Rattle.definitions.specs.Checks.{Checked, fine, refused}
use Rattle.definitions.specs.Report.{section_in}
use Rattle.definitions.specs.Analyse.{analyse}
use Rattle.definitions.specs.Answer.{run_outcome, answer, lent_report, lent_work, Ran}
use Rattle.definitions.specs.Chains.{Exact}
use Rattle.definitions.specs.Counting.{counts_of, references}
use Rattle.definitions.proofs.Answers.{outcome_told, ran_accepts}
use Rattle.definitions.proofs.Fold.{fine_inj}
use Rattle.definitions.proofs.Theorems.{demand_3_of_version_1, counts_sum_of_version_1, in_limit_of_version_1, refused_zero}
use Rattle.definitions.proofs.Theorems as theorems
use Rattle.vocabulary.specs.Said.{refusal_said}
use Rattle.vocabulary.specs.declared.refusal.Refusal as words
use Rattle.vocabulary.proofs.Refusals.{refusal_of, refusal_back}
use Rattle.std.specs.Prelude.{Ok, Err}
use Rattle.analyzer.specs.Said.{Answer, answer_said}

module _ {m report work report' work' : List ℕ} {n : ℕ} (ran : Ran version_1 m report work (answer_said (Ok n)) report' work') where
  outcome : run_outcome version_1 m (length report) (length work) ≡ fine (take n report')
  outcome = outcome_told version_1 ran

  -- the module is accepted, and the report is the one that document 01 says
  pub accepts : analyse version_1 m ≡ fine (take n report')
  accepts = ran_accepts version_1 ran

  -- 9.3 the answer is its length
  pub length_is_said : length (take n report') ≡ n
  unfolding answer
  length_is_said = sym (fine_inj (ran.answers ∙ ap answer outcome))

  -- 9.3 and every byte behind it is zero
  pub zeros_behind : report' ≡ take n report' ++ replicate (length report - n) 0
  unfolding lent_report
  zeros_behind = ran.reports ∙ ap (lent_report (length report)) outcome ∙ ap (λ k. take n report' ++ replicate (length report - k) 0) length_is_said

  -- 10.2 Demand 3: the pairs and mixed pairs that stand in the report at f are exactly those of chains from f, each once, ascending, and no chain is
  -- lost to an end that can't be traced
  pub pairs_are_exact : (f : ℕ) → f < functions m → Exact m f (section_in (take n report') f).summary.lists
  pairs_are_exact = demand_3_of_version_1 m (take n report') accepts

  -- 6.5 The reference counts that stand in the report at f add up to the operands and initialisers that there are
  pub counts_add_up : (f : ℕ) → f < functions m → counts_of (section_in (take n report') f).entries ≡ references m f
  counts_add_up = counts_sum_of_version_1 m (take n report') accepts

  -- 7.5 no report passes its limit
  pub in_limit : n ≤ 65536
  in_limit = omega (arith, length_is_said, in_limit_of_version_1 m (take n report') accepts)

-- 9.3 After a refusal every byte of the lent report is zero
pub refusal_leaves_zeros : {m report work report' work' : List ℕ} (r : words.Refusal) → Ran version_1 m report work (answer_said (Err r)) report' work' → report' ≡ replicate (length report) 0
refusal_leaves_zeros {m} {report} {work} {report'} {work'} r ran = refused_zero version_1 m report work (refused (refusal_said r)) (refusal_said r) report' work' ran refl

-- 9.3 After every run every byte of the lent working memory is zero
pub memory_is_cleared : {m report work report' work' : List ℕ} {a : Checked ℕ} → Ran version_1 m report work a report' work' → work' ≡ replicate (length work) 0
unfolding lent_work
memory_is_cleared ran = ran.clears

-- 12.1 An answer by what it says: no two answers of the code say the same
unfoldable pub answer_of : Checked ℕ → Answer
answer_of (refused r) = Err (refusal_of r)
answer_of (fine n) = Ok n

pub answer_back : (a : Answer) → answer_of (answer_said a) ≡ a
unfolding answer_of
answer_back (Ok n) = refl
answer_back (Err r) = ap Err (refusal_back r)

pub one_said : (a b : Answer) → answer_said a ≡ answer_said b → a ≡ b
one_said a b e = sym (answer_back a) ∙ ap answer_of e ∙ answer_back b

-- 12.1 Two runs on the same lent bytes give the same answer, as the code has it, and leave the same bytes
pub one_answer : {m report work r₁ r₂ w₁ w₂ : List ℕ} (a b : Answer) → Ran version_1 m report work (answer_said a) r₁ w₁ → Ran version_1 m report work (answer_said b) r₂ w₂
    → (a ≡ b) × (r₁ ≡ r₂) × (w₁ ≡ w₂)
one_answer {m} {report} {work} {r₁} {r₂} {w₁} {w₂} a b p q =
    let e = theorems.one_answer version_1 m report work (answer_said a) (answer_said b) r₁ r₂ w₁ w₂ p q in (one_said a b e.0, e.1, e.2)

-- 9.3 What a run answers and leaves depends on the lengths of the lent report and memory, and not on what stood in
-- them before: nothing has to be cleared
pub fresh_or_used : {m report work report' work' : List ℕ} {a : Checked ℕ} (report'' work'' : List ℕ) → length report ≡ length report'' → length work ≡ length work''
    → Ran version_1 m report work a report' work' → Ran version_1 m report'' work'' a report' work'
fresh_or_used {m} report'' work'' r w ran =
    let o = ap₂ (run_outcome version_1 m) r w in
    record { answers = ran.answers ∙ ap answer o; reports = ran.reports ∙ ap₂ lent_report r o; clears = ran.clears ∙ ap lent_work w }
