-- Stretches of bytes, laid over others one by one: one byte more of a copy from a to b.
use Rattle.std.proofs.Common.{ℕ, ◌+◌, ◌≤◌, ◌<◌, ◌≡◌, List, length, drop, get_or, set, ap, sym, ◌∙◌, add-one, arith}
use Rattle.std.proofs.Math.Seq.{paste, paste-suc, get_or-drop}
use Rattle.std.proofs.lemmas.List.{length-drop}

pub copied_more : (from : List ℕ) (a : ℕ) (to : List ℕ) (b i n : ℕ) → i < n → a + n ≤ length from → b + n ≤ length to
    → set (paste to b (drop a from) i) (b + i) (get_or from (a + i) 0) ≡ paste to b (drop a from) (i + 1)
copied_more from a to b i n h hf ht =
    ap (λ x. set (paste to b (drop a from) i) (b + i) x) (sym (get_or-drop a from i 0))
    ∙ (paste-suc to b (drop a from) i 0 (omega arith) (simp length-drop (omega arith))
    ∙ ap (λ k. paste to b (drop a from) k) (sym (add-one i)))
