-- 01, 9: what a run leaves, as functions of the module and of the lent lengths.
use Rattle.std.specs.Prelude.{ℕ, ◌-◌, List, [], ◌∷◌, ◌++◌, ◌≡◌, ltb, length, replicate}
use Rattle.definitions.specs.Limits.{Limits}
use Rattle.definitions.specs.Checks.{refusal, Checked, refused, fine, ◌>>=◌, Check, ◌⇒◌, first}
use Rattle.definitions.specs.Analyse.{analyse}

-- 9.2 1 (0, 0) where the report is shorter than 65,536 bytes or the working memory is shorter than its published size
unfoldable pub lent : Limits → ℕ → ℕ → List Check
lent L report work = (ltb report L.report ⇒ refusal 1 0 0) ∷ (ltb work L.work ⇒ refusal 1 0 0) ∷ []

-- 8.2 1 comes before all else
unfoldable pub run_outcome : Limits → List ℕ → ℕ → ℕ → Checked (List ℕ)
run_outcome L m report work = do
  _ ← first (lent L report work)
  analyse L m

-- 9.3 After a report, the answer is its length
unfoldable pub answer : Checked (List ℕ) → Checked ℕ
answer (refused r) = refused r
answer (fine b) = fine (length b)

-- 9.3 the report stands at the start of the lent report, and every byte behind it is zero. After a refusal every byte of it is zero
unfoldable pub lent_report : ℕ → Checked (List ℕ) → List ℕ
lent_report n (refused r) = replicate n 0
lent_report n (fine b) = b ++ replicate (n - length b) 0

-- 9.3 In both cases every byte of the lent working memory is zero
unfoldable pub lent_work : ℕ → List ℕ
lent_work n = replicate n 0

-- The promise of a run: what it answers, and every lent byte after it
pub record Ran (L : Limits) (m report work : List ℕ) (answered : Checked ℕ) (report' work' : List ℕ) : Type 0 where
  pub answers : answered ≡ answer (run_outcome L m (length report) (length work))
  pub reports : report' ≡ lent_report (length report) (run_outcome L m (length report) (length work))
  pub clears : work' ≡ lent_work (length work)
