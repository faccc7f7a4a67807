-- What a run that answered with a report says of its module: it is accepted, and the report is the first bytes of what
-- was lent.
use Prim.Native.Nat.{ℕ, ◌-◌}
use native.Mathlib.Omega.{arith}
use mathlib.Core.List.{List, ◌++◌}
use mathlib.Core.Path.{◌≡◌, sym, ap, ◌∙◌}
use lib.ListN.{length, take, replicate}
use lib.Seq.{take-append-le, take-length}
use Rattle.definitions.specs.Limits.{Limits}
use Rattle.definitions.specs.Checks.{Checked, fine, refused, first}
use Rattle.definitions.specs.Analyse.{analyse}
use Rattle.definitions.specs.Answer.{lent, run_outcome, answer, lent_report, Ran}
use Rattle.definitions.proofs.Fold.{bind_fine, fine_inj, not_fine}

-- the report that an outcome tells of, in what is left of the lent report
report_told : (o : Checked (List ℕ)) (n k : ℕ) → fine n ≡ answer o → o ≡ fine (take n (lent_report k o))
unfolding answer lent_report
report_told (refused r) n k e = absurd (not_fine (sym e))
report_told (fine b) n k e =
    let z : n ≡ length b = fine_inj e in
    sym (ap fine (ap (λ i. take i (b ++ replicate (k - length b) 0)) z ∙ (take-append-le (length b) b (replicate (k - length b) 0) (omega arith) ∙ take-length b)))

module _ (L : Limits) {m report work report' work' : List ℕ} {n : ℕ} (ran : Ran L m report work (fine n) report' work') where
  pub outcome_told : run_outcome L m (length report) (length work) ≡ fine (take n report')
  outcome_told =
      report_told (run_outcome L m (length report) (length work)) n (length report) ran.answers ∙ ap (λ b. fine (take n b)) (sym ran.reports)

  -- 9.3 After a report, the answer is its length
  pub ran_accepts : analyse L m ≡ fine (take n report')
  unfolding run_outcome
  ran_accepts =
      let a = bind_fine (first (lent L (length report) (length work))) (λ _. analyse L m) outcome_told in
      a.2
