use Rattle.std.proofs.Common.{ℕ, Bool, false, ◌≡◌, ◌-◌}
use Rattle.form_records.specs.OperandChecks.{Tells, found_from}
use Rattle.form_records.proofs.operands.Given as goal

abbrev pub invariant-loop-j : goal.invariant-loop-j
invariant-loop-j g l =
    (p q : ℕ → Bool)
    → Tells (goal.P-post g l.misplaced) l.m l.s.function l.first l.count p
    → Tells (goal.Q-post g l.astray) l.m l.s.function l.first l.count q
    → found_from p q 0 l.count false ≡ found_from p q l.j (l.count - l.j) l.some_astray
