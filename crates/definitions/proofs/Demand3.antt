-- 01, 10.2 of the lists that the rules build: in an accepted module each function's lists are exact.
use Prim.Native.Nat.{ℕ, ◌<◌}
use native.Mathlib.Omega.{arith}
use mathlib.Core.List.{List, [], ◌∷◌}
use mathlib.Core.Path.{◌≡◌, refl, sym, ◌∙◌}
use mathlib.Core.Logic.{inl, inr}
use mathlib.Core.Bool.{true, false, true≢false}
use Rattle.definitions.specs.Limits.{Limits}
use Rattle.definitions.specs.Module.{functions, statements, s_kind, s_number}
use Rattle.definitions.specs.Checks.{fine}
use Rattle.definitions.specs.Ends.{End, Pair, Traced, reaches, neither, replaced, both_global}
use Rattle.definitions.specs.Pairs.{Lists}
use Rattle.definitions.specs.Summary.{Section, summary_of}
use Rattle.definitions.specs.Walk.{Walked}
use Rattle.definitions.specs.Analyse.{function_run, section_of, accepted}
use Rattle.definitions.specs.Chains.{Leads, onto, back, Chained, Mem, Ascending, Once, Exact}
use Rattle.definitions.proofs.Sorted.{once}
use Rattle.definitions.proofs.Formed.{Formed, call_lower}
use Rattle.definitions.proofs.Enter.{Has, Kept}
use Rattle.definitions.proofs.Modules.{by_functions, accepted_formed}
use Rattle.definitions.proofs.Step.{Samples, Takes, Calls, Found, lists_of, function_from, function_to, function_kept, function_traces, function_replaces}

-- the two lists together hold the chains, each holds its own kind, and no chain's ends are lost
record Right (L : Limits) (m : List ℕ) (f : ℕ) (l : Lists) : Type 0 where
  kept : Kept L l
  sound : (z : Pair) → Has z l → Chained m f z
  whole : (z : Pair) → Chained m f z → Has z l
  traced : (calls : List ℕ) (e : ℕ) → Leads m f calls e
      → (p : Pair) × (back m f calls e 0 ≡ reaches p.image) × (back m f calls e 1 ≡ reaches p.sampler)

onto_reaches : (t : Traced) (k : End → Traced) {y : End} → onto t k ≡ reaches y → (x : End) × (t ≡ reaches x) × (k x ≡ reaches y)
unfolding onto
onto_reaches (reaches x) k e = (x, refl, e)
onto_reaches neither k e = absurd (let z : ◌≡◌ {A = ℕ} 0 1 = cc in omega arith)

module _ (L : Limits) (m : List ℕ) (formed : Formed L m) (f : ℕ) (in_range : f < functions m) (done : List Section)
    (below : (g : ℕ) → g < f → Right L m g (lists_of done g)) where
  lower : (t : ℕ) → t < statements m f → s_kind m f t ≡ 6 → Right L m (s_number m f t) (lists_of done (s_number m f t))
  lower t lt k = below (s_number m f t) (call_lower L m f t ((formed.each_sheet f in_range).each_statement t lt) k)

  found_chain : (z : Pair) → Found m done f z → Chained m f z
  unfolding Found Samples Calls Takes back onto
  found_chain z (inl a) = record { chain = record { calls = []; sampling = a.0 }; from = (a.1, a.2.0); traces = (a.2.1, a.2.2) }
  found_chain z (inr a) =
      let t = a.0 in
      let c = (lower t a.1 a.2.0).sound a.2.1 a.2.2 in
      record {
        chain = record { calls = t ∷ c.chain.calls; sampling = c.chain.sampling };
        from = (a.1, a.2.0, c.from);
        traces = (rw c.traces.0 a.2.3.0, rw c.traces.1 a.2.3.1);
      }

  chain_found : (calls : List ℕ) (e : ℕ) (z : Pair) → Leads m f calls e → back m f calls e 0 ≡ reaches z.image → back m f calls e 1 ≡ reaches z.sampler → Found m done f z
  unfolding Found Samples Calls Takes back
  chain_found [] e z h i s = inl (e, h.0, (h.1, i, s))
  chain_found (t ∷ ts) e z h i s =
      let a = onto_reaches (back m (s_number m f t) ts e 0) (replaced m f t) i in
      let b = onto_reaches (back m (s_number m f t) ts e 1) (replaced m f t) s in
      let q : Pair = record { image = a.0; sampler = b.0 } in
      inr (t, h.0, (h.1, q, (lower t h.0 h.1).whole q (record { chain = record { calls = ts; sampling = e }; from = h.2; traces = (a.1, b.1) }), (a.2, b.2)))

  right : (w : Walked) → function_run L m done f ≡ fine w → Right L m f w.state.lists
  unfolding Samples Takes back onto
  right w ran = record {
    kept = function_kept L m done f (formed.each_sheet f in_range) w ran;
    sound = λ z h. found_chain z (function_from L m done f (formed.each_sheet f in_range) w ran z h);
    whole = λ z c. function_to L m done f (formed.each_sheet f in_range) w ran z (chain_found c.chain.calls c.chain.sampling z c.from c.traces.0 c.traces.1);
    traced = traced_from;
  }
    where
      traced_from : (calls : List ℕ) (e : ℕ) → Leads m f calls e
          → (p : Pair) × (back m f calls e 0 ≡ reaches p.image) × (back m f calls e 1 ≡ reaches p.sampler)
      traced_from [] e h =
          let a = function_traces L m done f (formed.each_sheet f in_range) w ran e h.0 h.1 in
          (a.0, a.1.1, a.1.2)
      traced_from (t ∷ ts) e h =
          let callee = lower t h.0 h.1 in
          let q = callee.traced ts e h.2 in
          let has = callee.whole q.0 (record { chain = record { calls = ts; sampling = e }; from = h.2; traces = (q.1, q.2) }) in
          let p = function_replaces L m done f (formed.each_sheet f in_range) w ran t q.0 h.0 h.1 has in
          (p.0, rw q.1 p.1.0, rw q.2 p.1.1)

all_once : (l : List Pair) → Ascending l → Once l
all_once [] a = tt
all_once (x ∷ l) a = (once x l a, all_once l a.1)

exact : (L : Limits) (m : List ℕ) (f : ℕ) (l : Lists) → Right L m f l → Exact m f l
exact L m f l r = record {
  pairs_are = λ z. (λ h. (r.sound z (inl h), r.kept.pairs_global z h), λ c. in_pairs z c.1 (r.whole z c.0));
  mixed_are = λ z. (λ h. (r.sound z (inr h), r.kept.mixed_not z h), λ c. in_mixed z c.1 (r.whole z c.0));
  pairs_ascend = r.kept.pairs_up;
  mixed_ascend = r.kept.mixed_up;
  pairs_once = all_once l.pairs r.kept.pairs_up;
  mixed_once = all_once l.mixed r.kept.mixed_up;
  none_lost = λ c h. let a = r.traced c.calls c.sampling h in (a.0, (a.1, a.2));
}
  where
    in_pairs : (z : Pair) → both_global z ≡ true → Has z l → Mem z l.pairs
    in_pairs z g (inl h) = h
    in_pairs z g (inr h) = absurd (true≢false (sym g ∙ r.kept.mixed_not z h))

    in_mixed : (z : Pair) → both_global z ≡ false → Has z l → Mem z l.mixed
    in_mixed z g (inl h) = absurd (true≢false (sym (r.kept.pairs_global z h) ∙ g))
    in_mixed z g (inr h) = h

pub lists_exact : (L : Limits) (m : List ℕ) (d : List Section) → accepted L m ≡ fine d → (f : ℕ) → f < functions m → Exact m f (lists_of d f)
unfolding summary_of section_of
lists_exact L m d e f h =
    let formed = accepted_formed L m d e in
    exact L m f (lists_of d f)
    (by_functions L m (λ g y. Right L m g y.summary.lists)
    (λ g done w lt len ran below. right L m formed g lt done below w ran) d e f h)
