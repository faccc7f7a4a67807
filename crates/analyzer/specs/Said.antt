-- What the code's answers say (01, 9.3 and 12.3). The promises use these definitions.
use Rattle.std.specs.Prelude.{ℕ, List, take, Result, Ok, Err}
use Rattle.std.specs.Result.{result_unwrap_or}
use Rattle.definitions.specs.Checks.{Checked, fine, refused}
use Rattle.vocabulary.specs.Said.{refusal_said}
use Rattle.vocabulary.specs.declared.refusal.Refusal.{Refusal}

-- 9.3 the answer of a run: the report's length, or the refusal
abbrev pub Answer : Type 0
Answer = Result ℕ Refusal

abbrev pub answer_said : Answer → Checked ℕ
answer_said (Ok n) = fine n
answer_said (Err r) = refused (refusal_said r)

-- the outcome that an answer tells of, where the report stands at the start of the bytes b
abbrev pub outcome_said : Answer → List ℕ → Checked (List ℕ)
outcome_said (Ok n) b = fine (take n b)
outcome_said (Err r) b = refused (refusal_said r)

-- how many of the lent report's bytes the report takes
abbrev pub kept_of : Answer → ℕ
kept_of a = result_unwrap_or a 0
