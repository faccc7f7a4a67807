-- The two lists in working memory, and what entering leaves. w is the memory at entry, w' at exit.
use Rattle.std.specs.Prelude.{ℕ, ◌≤◌, ◌≡◌, List, length, take, drop, Result, Ok, Err}
use Rattle.definitions.specs.Limits.{version_1}
use Rattle.definitions.specs.Checks.{Checked, refused, fine}
use Rattle.definitions.specs.Pairs as paper
use Rattle.definitions.specs.Chains.{Ascending}
use Rattle.memory.specs.Layout.{pairs_at, mixed_at, sections_at, size}
use Rattle.vocabulary.specs.declared.refusal.Refusal.{Refusal}
use Rattle.vocabulary.specs.Said.{refusal_said}
use Rattle.rules_pairs.specs.Bytes.{listed}
use Rattle.rules_pairs.specs.declared.lists.Lists.{Lists}

-- the lists that stand in the memory: `viewed` of the memory has these too
unfoldable pub lists_in : Lists → List ℕ → paper.Lists
lists_in l w = record { pairs = listed w pairs_at l.pairs; mixed = listed w mixed_at l.mixed }

-- 4.4 they have no more entries than the limit, and ascend
pub record ValidLists (w : List ℕ) (l : Lists) : Type 0 where
  pub long : length w ≡ size
  pub few_pairs : l.pairs ≤ version_1.pairs
  pub few_mixed : l.mixed ≤ version_1.pairs
  pub pairs_ascend : Ascending (listed w pairs_at l.pairs)
  pub mixed_ascend : Ascending (listed w mixed_at l.mixed)

-- what an answer and the memory beside it come to
abbrev pub listed_said : Result Lists Refusal → List ℕ → Checked paper.Lists
listed_said (Ok l) w = fine (lists_in l w)
listed_said (Err r) w = refused (refusal_said r)

-- where nothing was refused the lists stand again
abbrev pub ValidListsAfter : Result Lists Refusal → List ℕ → Type 0
ValidListsAfter (Ok l) w = ValidLists w l
ValidListsAfter (Err r) w = Unit {0}

-- the outcome of a step over the lists; and no byte outside their room has changed
pub record ListsResult (w : List ℕ) (outcome : Checked paper.Lists) (w' : List ℕ) (r : Result Lists Refusal) : Type 0 where
  pub said : listed_said r w' ≡ outcome
  pub stand : ValidListsAfter r w'
  pub long : length w' ≡ size
  pub below : take pairs_at w' ≡ take pairs_at w
  pub above : drop sections_at w' ≡ drop sections_at w
