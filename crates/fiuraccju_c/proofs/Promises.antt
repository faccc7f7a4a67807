-- What a caller of the C function can rely on, of the number that it returns and of the caller's own buffers. Each line
-- supposes calls of `fiuraccju_run` that met their promise, `PackedRun`, as its contract says of every call, and what the
-- number says: a report's length where it is below 2^56, else a refusal; nothing else.
use Prim.Native.Nat.{ℕ, ◌-◌, ◌/◌, ◌^◌, ◌≤◌, ◌<◌}
use native.Mathlib.Omega.{arith}
use mathlib.Core.List.{List, ◌++◌}
use mathlib.Core.Path.{◌≡◌, sym, ap, ap₂, ◌∙◌, subst}
use lib.ListN.{length, replicate}
use borrow.Author.Tests.{ne_eqb}
use Rattle.definitions.specs.Limits.{version_1}
use Rattle.definitions.specs.Module.{functions}
use Rattle.definitions.specs.Checks.{fine, refused}
use Rattle.definitions.specs.Report.{section_in}
use Rattle.definitions.specs.Analyse.{analyse}
use Rattle.definitions.specs.Answer.{run_outcome, answer, Ran}
use Rattle.definitions.specs.Chains.{Exact}
use Rattle.definitions.specs.Counting.{counts_of, references}
use Rattle.definitions.proofs.Theorems as theorems
use Rattle.analyzer.specs.Said.{Answer, answer_said}
use Rattle.analyzer.proofs.Promises as promises
use Rattle.analyzer.proofs.Promises.{answer_of, answer_back}
use Rattle.fiuraccju_c.specs.Packed.{packed, unpacked_refusal, unpacked, PackedRun, report_in}
use Rattle.fiuraccju_c.proofs.Unpacking as packing

-- what the number says, by its highest byte
says_report : (x : ℕ) → x < 2 ^ 56 → unpacked x ≡ fine x
unfolding packed
says_report x small = packing.answer_back (fine x) small

says_refusal : (x : ℕ) → 2 ^ 56 ≤ x → unpacked x ≡ refused (unpacked_refusal x)
unfolding unpacked
says_refusal x large = rw (ne_eqb (x / 2 ^ 56) 0 (λ e. omega arith), unpacked)

-- After a report
module _ {m report work report' work' : List ℕ} {x : ℕ} (call : PackedRun m report work x report' work') (small : x < 2 ^ 56) where
  ran : Ran version_1 m report work (fine x) report' work'
  ran = subst (λ a. Ran version_1 m report work a report' work') (says_report x small) call.ran

  -- the module is accepted, and what stands in the caller's buffer is the report that document 01 says
  pub accepts : analyse version_1 m ≡ fine (report_in report' x)
  unfolding report_in
  accepts = promises.accepts ran

  -- 10.2 Demand 3: the pairs and mixed pairs that stand in the caller's buffer at f are exactly those of chains from f,
  -- each once, ascending, and no chain is lost to an end that can't be traced
  pub pairs_are_exact : (f : ℕ) → f < functions m → Exact m f (section_in (report_in report' x) f).summary.lists
  unfolding report_in
  pairs_are_exact = promises.pairs_are_exact ran

  -- 6.5 The reference counts that stand there at f add up to the operands and initialisers that there are
  pub counts_add_up : (f : ℕ) → f < functions m → counts_of (section_in (report_in report' x) f).entries ≡ references m f
  unfolding report_in
  counts_add_up = promises.counts_add_up ran

  -- 9.3 The number is the report's length, and every byte of the buffer behind it is zero
  pub length_is_said : length (report_in report' x) ≡ x
  unfolding report_in
  length_is_said = promises.length_is_said ran

  pub zeros_behind : report' ≡ report_in report' x ++ replicate (length report - x) 0
  unfolding report_in
  zeros_behind = promises.zeros_behind ran

  -- 7.5 no report passes its limit
  pub in_limit : x ≤ 65536
  in_limit = promises.in_limit ran

-- 9.3 After a refusal every byte of the caller's buffer is zero
pub refusal_leaves_zeros : {m report work report' work' : List ℕ} {x : ℕ} → PackedRun m report work x report' work' → 2 ^ 56 ≤ x → report' ≡ replicate (length report) 0
refusal_leaves_zeros {m} {report} {work} {report'} {work'} {x} call large =
    theorems.refused_zero version_1 m report work (unpacked x) (unpacked_refusal x) report' work' call.ran (says_refusal x large)

-- 9.3 After every call every byte of the caller's working memory is zero
pub memory_is_cleared : {m report work report' work' : List ℕ} {x : ℕ} → PackedRun m report work x report' work' → work' ≡ replicate (length work) 0
memory_is_cleared call = promises.memory_is_cleared call.ran

-- 12.1 Two calls on the same lent bytes return the same number, and leave the same bytes
pub one_number : {m report work r₁ r₂ w₁ w₂ : List ℕ} {x y : ℕ} → PackedRun m report work x r₁ w₁ → PackedRun m report work y r₂ w₂ → (x ≡ y) × (r₁ ≡ r₂) × (w₁ ≡ w₂)
one_number {m} {report} {work} {r₁} {r₂} {w₁} {w₂} {x} {y} p q =
    let e = theorems.one_answer version_1 m report work (unpacked x) (unpacked y) r₁ r₂ w₁ w₂ p.ran q.ran in (p.is_packed ∙ sym q.is_packed, e.1, e.2)

-- 12.1 and the number tells which answer `analyse` gives on these bytes, as the code has it
pub answer_told : {m report work r₁ r₂ w₁ w₂ : List ℕ} {x : ℕ} (a : Answer) → PackedRun m report work x r₁ w₁ → Ran version_1 m report work (answer_said a) r₂ w₂ → a ≡ answer_of (unpacked x)
answer_told {m} {report} {work} {r₁} {r₂} {w₁} {w₂} {x} a p q =
    let e = theorems.one_answer version_1 m report work (answer_said a) (unpacked x) r₂ r₁ w₂ w₁ q p.ran in sym (answer_back a) ∙ ap answer_of e.0

-- so packing loses nothing: where two calls return the same number, whatever they were lent, `analyse` gives the same
-- answer
pub one_number_one_answer : {m₁ m₂ report₁ report₂ work₁ work₂ : List ℕ} {r₁ r₂ w₁ w₂ r₃ r₄ w₃ w₄ : List ℕ} {x : ℕ} (a b : Answer)
    → PackedRun m₁ report₁ work₁ x r₁ w₁ → Ran version_1 m₁ report₁ work₁ (answer_said a) r₃ w₃ → PackedRun m₂ report₂ work₂ x r₂ w₂ → Ran version_1 m₂ report₂ work₂ (answer_said b) r₄ w₄ → a ≡ b
one_number_one_answer a b p s q t = answer_told a p s ∙ sym (answer_told b q t)

-- 9.3 What a call returns and leaves depends on the lengths of the caller's buffers, and not on what stood in them
-- before: nothing has to be cleared
pub fresh_or_used : {m report work report' work' : List ℕ} {x : ℕ} (report'' work'' : List ℕ) → length report ≡ length report'' → length work ≡ length work''
    → PackedRun m report work x report' work' → PackedRun m report'' work'' x report' work'
fresh_or_used {m} report'' work'' r w call = record {
  is_packed = call.is_packed ∙ ap (λ o. packed (answer o)) (ap₂ (run_outcome version_1 m) r w);
  ran = promises.fresh_or_used report'' work'' r w call.ran;
}
