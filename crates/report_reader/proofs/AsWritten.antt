-- A section that reads as y, part by part: its counts, what it says of the function, and each of its records.
use Prim.Native.Nat.{ℕ, ◌+◌, ◌*◌, ◌<◌}
use native.Mathlib.Omega.{arith}
use mathlib.Core.Path.{◌≡◌, sym, ap, ◌∙◌}
use mathlib.Core.List.{List}
use lib.ListN.{length, get_or}
use Rattle.definitions.specs.Bytes.{byte}
use Rattle.definitions.specs.Ends.{Pair}
use Rattle.definitions.specs.Summary.{Entry, Section}
use Rattle.definitions.specs.Report.{r_origin, r_requirements, r_may_kill, r_expressions, r_pair_count, r_mixed_count, r_use, r_pairs_at, r_mixed_at, r_entries_at, r_pair, r_mixed, r_entry, records, r_lists, r_summary, r_section}
use Rattle.memory.proofs.Records.{length_records, records_at}

-- records that are those of a list: as many, and one by one
module _ {A : Type 0} (one : List ℕ → ℕ → A) (size : ℕ) (b : List ℕ) (p n : ℕ) (l : List A) (are : records one size b p n ≡ l) where
  as_many : n ≡ length l
  as_many = sym (length_records one size b p n) ∙ ap length are

  record_is : (i : ℕ) (d : A) → i < n → one b (p + size * i) ≡ get_or l i d
  record_is i d lt = sym (records_at one size b p n i d lt) ∙ ap (λ v. get_or v i d) are

module _ (g : ℕ) (b : List ℕ) (p : ℕ) (y : Section) (is : r_section g b p ≡ y) where
  summary_is : r_summary g b p ≡ y.summary
  unfolding r_section
  summary_is = ap (λ v. v.summary) is

  lists_are : r_lists g b p ≡ y.summary.lists
  unfolding r_summary
  lists_are = ap (λ v. v.lists) summary_is

  -- 7.2 what the header says
  pub origin_is : r_origin b p ≡ y.summary.origin
  unfolding r_summary
  origin_is = ap (λ v. v.origin) summary_is

  pub requirements_are : r_requirements b p ≡ y.summary.requirements
  unfolding r_summary
  requirements_are = ap (λ v. v.requirements) summary_is

  pub may_kill_is : r_may_kill b p ≡ y.summary.may_kill
  unfolding r_summary
  may_kill_is = ap (λ v. v.may_kill) summary_is

  -- the uses
  uses_are : records byte 1 b (p + 10) g ≡ y.summary.uses
  unfolding r_summary
  uses_are = ap (λ v. v.uses) summary_is

  pub a_use_each : g ≡ length y.summary.uses
  a_use_each = as_many byte 1 b (p + 10) g _ uses_are

  pub use_is : (i : ℕ) → i < g → r_use b p i ≡ get_or y.summary.uses i 0
  unfolding r_use
  use_is i lt = let e : p + 10 + i ≡ p + 10 + 1 * i = omega arith in ap (byte b) e ∙ record_is byte 1 b (p + 10) g _ uses_are i 0 lt

  -- the pairs
  pairs_are : records r_pair 4 b (r_pairs_at g b p) (r_pair_count b p) ≡ y.summary.lists.pairs
  unfolding r_lists
  pairs_are = ap (λ v. v.pairs) lists_are

  pub pair_count_is : r_pair_count b p ≡ length y.summary.lists.pairs
  pair_count_is = as_many r_pair 4 b (r_pairs_at g b p) (r_pair_count b p) _ pairs_are

  pub pair_is : (i : ℕ) (d : Pair) → i < r_pair_count b p → r_pair b (r_pairs_at g b p + 4 * i) ≡ get_or y.summary.lists.pairs i d
  pair_is = record_is r_pair 4 b (r_pairs_at g b p) (r_pair_count b p) _ pairs_are

  -- the mixed pairs
  mixed_are : records r_mixed 6 b (r_mixed_at g b p) (r_mixed_count b p) ≡ y.summary.lists.mixed
  unfolding r_lists
  mixed_are = ap (λ v. v.mixed) lists_are

  pub mixed_count_is : r_mixed_count b p ≡ length y.summary.lists.mixed
  mixed_count_is = as_many r_mixed 6 b (r_mixed_at g b p) (r_mixed_count b p) _ mixed_are

  pub mixed_is : (i : ℕ) (d : Pair) → i < r_mixed_count b p → r_mixed b (r_mixed_at g b p + 6 * i) ≡ get_or y.summary.lists.mixed i d
  mixed_is = record_is r_mixed 6 b (r_mixed_at g b p) (r_mixed_count b p) _ mixed_are

  -- the expressions
  entries_are : records r_entry 9 b (r_entries_at g b p) (r_expressions b p) ≡ y.entries
  unfolding r_section
  entries_are = ap (λ v. v.entries) is

  pub expressions_are : r_expressions b p ≡ length y.entries
  expressions_are = as_many r_entry 9 b (r_entries_at g b p) (r_expressions b p) _ entries_are

  pub entry_is : (i : ℕ) (d : Entry) → i < r_expressions b p → r_entry b (r_entries_at g b p + 9 * i) ≡ get_or y.entries i d
  entry_is = record_is r_entry 9 b (r_entries_at g b p) (r_expressions b p) _ entries_are
