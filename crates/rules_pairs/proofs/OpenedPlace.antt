-- A place opened in a list of pairs: the list afterwards, and the bytes around it.
use Prim.Native.Nat.{ℕ, suc, ◌+◌, ◌*◌, ◌-◌, ◌<◌, ◌≤◌, min}
use native.Mathlib.Omega.{arith}
use mathlib.Core.Path.{◌≡◌, refl, sym, ap, ◌∙◌}
use mathlib.Core.List.{List, ◌∷◌, ◌++◌}
use lib.ListN.{length, get_or, take, drop, length-take, length-drop}
use lib.Seq.{ext_get_or, get_or-take, get_or-drop}
use Rattle.definitions.specs.Bytes.{byte}
use Rattle.definitions.specs.Ends.{Pair}
use Rattle.definitions.specs.Report.{records, r_mixed}
use Rattle.rules_pairs.specs.Bytes.{listed, moved, opened}
use Rattle.memory.proofs.Records.{length_records, records_at, records_append, records_same}
use Rattle.rules_pairs.proofs.Records.{take_records, drop_records}
use Rattle.rules_pairs.proofs.MoveUp.{length_moved, moved_below, moved_up, moved_above, length_stored, stored_apart, stored_read, r_mixed_same}

-- bytes that are the same one by one, before a place and from a place on
pub take_same : (w w' : List ℕ) (n : ℕ) → length w ≡ length w' → ((j : ℕ) → j < n → byte w j ≡ byte w' j) → take n w ≡ take n w'
unfolding byte
take_same w w' n e h =
    ext_get_or 0 (take n w) (take n w') (length-take n w ∙ ap (λ (k : ℕ). min n k) e ∙ sym (length-take n w')) (λ i lt.
    let q = length-take n w in
    let b : i < n = omega arith in
    get_or-take n w i 0 b ∙ h i b ∙ sym (get_or-take n w' i 0 b))

pub drop_same : (w w' : List ℕ) (n : ℕ) → length w ≡ length w' → ((j : ℕ) → n ≤ j → byte w j ≡ byte w' j) → drop n w ≡ drop n w'
unfolding byte
drop_same w w' n e h =
    ext_get_or 0 (drop n w) (drop n w') (length-drop n w ∙ ap (λ (k : ℕ). k - n) e ∙ sym (length-drop n w')) (λ i lt.
    get_or-drop n w i 0 ∙ h (n + i) (omega arith) ∙ sym (get_or-drop n w' i 0))

-- and back: what is said of all bytes before a place, or from it on, is said of each
pub byte_below : (w w' : List ℕ) (n j : ℕ) → take n w ≡ take n w' → j < n → byte w j ≡ byte w' j
unfolding byte
byte_below w w' n j e lt = sym (get_or-take n w j 0 lt) ∙ ap (λ (l : List ℕ). get_or l j 0) e ∙ get_or-take n w' j 0 lt

pub byte_above : (w w' : List ℕ) (n j : ℕ) → drop n w ≡ drop n w' → n ≤ j → byte w j ≡ byte w' j
unfolding byte
byte_above w w' n j e le =
    let q : n + (j - n) ≡ j = omega arith in
    ap (λ (x : ℕ). get_or w x 0) (sym q) ∙ sym (get_or-drop n w (j - n) 0) ∙ ap (λ (l : List ℕ). get_or l (j - n) 0) e ∙ get_or-drop n w' (j - n) 0 ∙ ap (λ (x : ℕ). get_or w' x 0) q

-- a list whose bytes are the same is the same
pub listed_same : (w w' : List ℕ) (list n : ℕ) → ((j : ℕ) → list ≤ j → j < list + 6 * n → byte w j ≡ byte w' j) → listed w list n ≡ listed w' list n
unfolding listed
listed_same w w' list n h =
    records_same r_mixed 6 w' w list list n (λ i lt. r_mixed_same w w' (list + 6 * i) (list + 6 * i) (λ j le. h (list + 6 * i + j) (omega arith) (omega arith)))

pub length_listed : (w : List ℕ) (list n : ℕ) → length (listed w list n) ≡ n
unfolding listed
length_listed w list n = length_records r_mixed 6 w list n

pub getD_listed : (w : List ℕ) (list n i : ℕ) (d : Pair) → i < n → get_or (listed w list n) i d ≡ r_mixed w (list + 6 * i)
unfolding listed
getD_listed w list n i d lt = records_at r_mixed 6 w list n i d lt

module _ (w : List ℕ) (list n i : ℕ) (p : Pair) (le : i ≤ n) (fits : list + 6 * n + 6 ≤ length w) where
  at_moved : length (moved w (list + 6 * i) (list + 6 * n)) ≡ length w
  at_moved = length_moved w (list + 6 * i) (list + 6 * n) (omega arith) fits

  pub length_opened : length (opened w list n i p) ≡ length w
  unfolding opened
  length_opened = length_stored (moved w (list + 6 * i) (list + 6 * n)) (list + 6 * i) p ∙ at_moved

  pub opened_below : (j : ℕ) → j < list + 6 * i → byte (opened w list n i p) j ≡ byte w j
  unfolding opened
  opened_below j lt =
      stored_apart (moved w (list + 6 * i) (list + 6 * n)) (list + 6 * i) p j (λ a b. omega arith)
      ∙ moved_below w (list + 6 * i) (list + 6 * n) (omega arith) fits j (omega arith)

  opened_up : (j : ℕ) → list + 6 * i ≤ j → j < list + 6 * n → byte (opened w list n i p) (j + 6) ≡ byte w j
  unfolding opened
  opened_up j a b =
      stored_apart (moved w (list + 6 * i) (list + 6 * n)) (list + 6 * i) p (j + 6) (λ c d. omega arith)
      ∙ moved_up w (list + 6 * i) (list + 6 * n) (omega arith) fits j a b

  pub opened_above : (j : ℕ) → list + 6 * n + 6 ≤ j → byte (opened w list n i p) j ≡ byte w j
  unfolding opened
  opened_above j a =
      stored_apart (moved w (list + 6 * i) (list + 6 * n)) (list + 6 * i) p j (λ c d. omega arith)
      ∙ moved_above w (list + 6 * i) (list + 6 * n) (omega arith) fits j a

  opened_here : r_mixed (opened w list n i p) (list + 6 * i) ≡ p
  unfolding opened
  opened_here = stored_read (moved w (list + 6 * i) (list + 6 * n)) (list + 6 * i) p (rw at_moved (omega arith))

  -- the list then has p at i
  pub opened_listed : listed (opened w list n i p) list (n + 1) ≡ take i (listed w list n) ++ (p ∷ drop i (listed w list n))
  unfolding listed records
  opened_listed =
      let w' : List ℕ = opened w list n i p in
      let k : n + 1 ≡ i + suc (n - i) = omega arith in
      let q : list + 6 * i + 6 ≡ list + 6 * i + 6 = refl in
      let first : records r_mixed 6 w' list i ≡ take i (records r_mixed 6 w list n) =
      records_same r_mixed 6 w w' list list i (λ x lt. r_mixed_same w' w (list + 6 * x) (list + 6 * x) (λ j l. opened_below (list + 6 * x + j) (omega arith)))
      ∙ sym (take_records r_mixed 6 w list n i le) in
      let last : records r_mixed 6 w' (list + 6 * i + 6) (n - i) ≡ drop i (records r_mixed 6 w list n) =
      records_same r_mixed 6 w w' (list + 6 * i) (list + 6 * i + 6) (n - i) (λ x lt.
      r_mixed_same w' w (list + 6 * i + 6 + 6 * x) (list + 6 * i + 6 * x) (λ j l.
      let e : list + 6 * i + 6 + 6 * x + j ≡ list + 6 * i + 6 * x + j + 6 = omega arith in
      ap (byte w') e ∙ opened_up (list + 6 * i + 6 * x + j) (omega arith) (omega arith)))
      ∙ sym (drop_records r_mixed 6 w list n i le) in
      ap (records r_mixed 6 w' list) k
      ∙ records_append r_mixed 6 w' list i (suc (n - i))
      ∙ ap (λ (l : List Pair). l ++ (r_mixed w' (list + 6 * i) ∷ records r_mixed 6 w' (list + 6 * i + 6) (n - i))) first
      ∙ ap (λ (x : Pair). take i (records r_mixed 6 w list n) ++ (x ∷ records r_mixed 6 w' (list + 6 * i + 6) (n - i))) opened_here
      ∙ ap (λ (l : List Pair). take i (records r_mixed 6 w list n) ++ (p ∷ l)) last

  -- and around it nothing has changed
  pub opened_before : take list (opened w list n i p) ≡ take list w
  opened_before = take_same (opened w list n i p) w list length_opened (λ j lt. opened_below j (omega arith))

  pub opened_behind : drop (list + 6 * (n + 1)) (opened w list n i p) ≡ drop (list + 6 * (n + 1)) w
  opened_behind = drop_same (opened w list n i p) w (list + 6 * (n + 1)) length_opened (λ j a. opened_above j (omega arith))
