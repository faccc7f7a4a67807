-- What the contracts ask and promise, with names for the parts. w is bytes at entry, w' at exit.
use Rattle.std.specs.Prelude.{ℕ, ◌+◌, ◌*◌, ◌≤◌, ◌<◌, ◌≡◌, true, List, ◌∷◌, ◌++◌, length, take, drop, get_or, Option, Some, None, Result, Ok, Err}
use Rattle.definitions.specs.Checks.{Refusal, Checked, refused, fine}
use Rattle.definitions.specs.Limits.{Limits}
use Rattle.definitions.specs.Ends.{End, Pair, before}
use Rattle.definitions.specs.Report.{end_number}
use Rattle.definitions.specs.Pairs.{insert, within}
use Rattle.definitions.specs.Chains.{Ascending}
use Rattle.rules_pairs.specs.Bytes.{listed}
use Rattle.rules_pairs.specs.Keys.{end_key, key, SmallNumbers}

-- the key of an end, and of a pair
pub record EndKeyResult (x : End) (r : ℕ) : Type 0 where
  pub is : r ≡ end_key x
  pub small : end_number x < 65536
  pub less : r < 131072

pub record KeyResult (p : Pair) (r : ℕ) : Type 0 where
  pub is : r ≡ key p
  pub small : SmallNumbers p

-- bytes are left as l, whose length is n
pub record BytesResult (l : List ℕ) (n : ℕ) (w' : List ℕ) : Type 0 where
  pub is : w' ≡ l
  pub long : length w' ≡ n

-- a list that can be searched
pub record ValidSearch (w : List ℕ) (list n : ℕ) : Type 0 where
  pub fits : list + 6 * n ≤ length w
  pub ascends : Ascending (listed w list n)

-- the list once the pair is in it, as the place that was found says
abbrev pub placed : Result ℕ ℕ → Pair → List Pair → List Pair
placed (Ok i) p l = l
placed (Err i) p l = take i l ++ (p ∷ drop i l)

-- that place is one of the list, or where it enters its end
abbrev pub FoundWithin : Result ℕ ℕ → ℕ → Type 0
FoundWithin (Ok i) n = i < n
FoundWithin (Err i) n = i ≤ n

pub record FindResult (l : List Pair) (n : ℕ) (p : Pair) (r : Result ℕ ℕ) : Type 0 where
  pub is : placed r p l ≡ insert p l
  pub in_list : FoundWithin r n

-- each of its entries is before a pair of this key
unfoldable pub AllBefore : List ℕ → ℕ → ℕ → ℕ → Type 0
AllBefore w list n sought = (p : Pair) → KeyResult p sought → (j : ℕ) → j < n → before (get_or (listed w list n) j p) p ≡ true

-- bytes that can move up by one entry
pub record ValidMove (w : List ℕ) (a e : ℕ) : Type 0 where
  pub up : a ≤ e
  pub fits : e + 6 ≤ length w

-- a list with room for the most entries that it may have
pub record ValidInsert (L : Limits) (w : List ℕ) (list n : ℕ) : Type 0 where
  pub fits : list + 6 * L.pairs ≤ length w
  pub few : n ≤ L.pairs
  pub ascends : Ascending (listed w list n)

-- the list after an insertion, or the refusal of a full one
abbrev pub inserted_said : Refusal → List ℕ → ℕ → Option ℕ → Checked (List Pair)
inserted_said full w list (Some n) = fine (listed w list n)
inserted_said full w list None = refused full

-- how many entries the list then has: one that is full stays as it is
abbrev pub entries : Option ℕ → ℕ → ℕ
entries (Some k) n = k
entries None n = n

-- 4.4 the pair enters the list, unless it would be one more than the limit; and no byte but those of the list's
-- entries has changed
pub record InsertResult (L : Limits) (w : List ℕ) (list n : ℕ) (p : Pair) (w' : List ℕ) (r : Option ℕ) : Type 0 where
  pub said : (full : Refusal) → inserted_said full w' list r ≡ within L full (insert p (listed w list n))
  pub few : entries r n ≤ L.pairs
  pub long : length w' ≡ length w
  pub before : take list w' ≡ take list w
  pub behind : drop (list + 6 * entries r n) w' ≡ drop (list + 6 * entries r n) w
