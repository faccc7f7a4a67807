-- A refusal by its five values, or five zeros where there is none (01, 8.1).
use Rattle.std.specs.Prelude.{ℕ, List, [], ◌∷◌}
use Rattle.definitions.specs.Checks.{Refusal, Checked, fine, refused}

abbrev pub values : Refusal → List ℕ
values r = r.number ∷ r.function ∷ r.place ∷ r.cause ∷ r.cause_number ∷ []

abbrev pub values_of : Checked (Unit {0}) → List ℕ
values_of (refused r) = values r
values_of (fine _) = 0 ∷ 0 ∷ 0 ∷ 0 ∷ 0 ∷ []
