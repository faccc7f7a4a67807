-- What can be said of bytes that came from outside: how many of the buffer they are.
use Rattle.std.specs.Prelude.{ℕ, ◌≤◌, List, length, Result, IfOk}

abbrev pub InputResult : {E : Type 0} → Result ℕ E → List ℕ → Type 0
InputResult r s = IfOk r (λ n. n ≤ length s)
