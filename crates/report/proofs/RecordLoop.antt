-- A loop that writes one record of working memory after another: what is left of it lays what is left.
use Prim.Native.Nat.{ℕ, suc, ◌+◌, ◌*◌, ◌-◌, ◌<◌, ◌≤◌}
use mathlib.Core.Path.{◌≡◌, refl, ap, ◌∙◌, sym}
use mathlib.Core.List.{List}
use native.Mathlib.Omega.{arith}
use lib.ListN.{length}
use Rattle.definitions.specs.Report.{concat_map, records}
use Rattle.report.specs.Laid.{laid, BytesPut}
use Rattle.report.proofs.Laid.{laid_append, laid_none}

-- n records, each read by `one` from `read` bytes of w from `from` on and written by `write` to `wrote` bytes of r
-- from `at` on; i are done
pub record RecordLoop {A : Type 0} (write : A → List ℕ) (one : List ℕ → ℕ → A) (read wrote : ℕ) (w : List ℕ) (from n : ℕ) (r₀ : List ℕ) (at : ℕ) (r : List ℕ) (i : ℕ) : Type 0 where
  pub within : i ≤ n
  pub long : length r ≡ length r₀
  pub rest : laid r (at + wrote * i) (concat_map write (records one read w (from + read * i) (n - i))) ≡ laid r₀ at (concat_map write (records one read w from n))

module _ {A : Type 0} (write : A → List ℕ) (one : List ℕ → ℕ → A) (read wrote : ℕ) (w : List ℕ) (from n : ℕ) (r₀ : List ℕ) (at : ℕ) where
  pub loop_start : RecordLoop write one read wrote w from n r₀ at r₀ 0
  loop_start = record {
    within = omega arith;
    long = refl;
    rest =
        let a : at + wrote * 0 ≡ at = omega arith in
        let b : from + read * 0 ≡ from = omega arith in
        let c : n - 0 ≡ n = omega arith in
        rw (a, b, c);
  }

  pub loop_more : (r r' : List ℕ) (i : ℕ) → ((x : A) → length (write x) ≡ wrote) → i < n → RecordLoop write one read wrote w from n r₀ at r i
      → BytesPut r r' (at + wrote * i) (write (one w (from + read * i))) → RecordLoop write one read wrote w from n r₀ at r' (i + 1)
  unfolding concat_map records
  loop_more r r' i l lt t p =
      let x = one w (from + read * i) in
      let a : at + wrote * (i + 1) ≡ at + wrote * i + length (write x) = omega (arith, l x) in
      let b : from + read * (i + 1) ≡ from + read * i + read = omega arith in
      let c : n - i ≡ suc (n - (i + 1)) = omega arith in
      let left = concat_map write (records one read w (from + read * i + read) (n - (i + 1))) in
      record {
        within = omega arith;
        long = omega (arith, t.long, p.long);
        rest =
            ap (λ (k : ℕ). laid r' k (concat_map write (records one read w (from + read * (i + 1)) (n - (i + 1))))) a
            ∙ ap (λ (k : ℕ). laid r' (at + wrote * i + length (write x)) (concat_map write (records one read w k (n - (i + 1))))) b
            ∙ ap (λ (l : List ℕ). laid l (at + wrote * i + length (write x)) left) p.is
            ∙ sym (laid_append r (at + wrote * i) (write x) left)
            ∙ ap (λ (k : ℕ). laid r (at + wrote * i) (concat_map write (records one read w (from + read * i) k))) (sym c)
            ∙ t.rest;
      }

  pub loop_done : (r : List ℕ) (i : ℕ) → n ≤ i → RecordLoop write one read wrote w from n r₀ at r i → BytesPut r₀ r at (concat_map write (records one read w from n))
  unfolding concat_map records
  loop_done r i le t =
      let c : n - i ≡ 0 = omega arith in
      record {
        is = sym (laid_none r (at + wrote * i))
            ∙ ap (λ (k : ℕ). laid r (at + wrote * i) (concat_map write (records one read w (from + read * i) k))) (sym c)
            ∙ t.rest;
        long = t.long;
      }
