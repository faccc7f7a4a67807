-- Every answer of a run has room in one number: a refusal's values fit, since the code holds them as u8 and u16, and none has the number 0;
-- a report is within its limit. Assumes nothing.
use Prim.Native.Nat.{ℕ, ◌^◌, ◌<◌, ◌≤◌}
use mathlib.Core.List.{List}
use mathlib.Core.Path.{◌≡◌, refl, ap, ◌∙◌, sym, subst}
use native.Mathlib.Omega.{arith}
use lib.Dec.{lit≤}
use lib.ListN.{length}
use Rattle.definitions.specs.Limits.{version_1}
use Rattle.definitions.specs.Checks.{Checked, fine, refused, refusal, first}
use Rattle.definitions.specs.Walk.{non_uniform}
use Rattle.definitions.specs.Answer.{lent, run_outcome, answer, Ran}
use Rattle.definitions.proofs.Fold.{bind_fine, not_fine}
use Rattle.definitions.proofs.Theorems.{in_limit_of_version_1}
use Rattle.std.specs.Prelude.{Some, None}
use Rattle.vocabulary.specs.Said.{refusal_said}
use Rattle.vocabulary.specs.declared.disruptor.UniformityDisruptor.TheVariants.{Expression, Return, Discard}
use Rattle.vocabulary.specs.declared.refusal.Refusal.{Refusal}
use Rattle.vocabulary.specs.declared.refusal.Refusal.TheVariants.{Lent, Length, Count, Code, Shape, Range, Untraced, Base, Capability, Arguments, NonUniform, Full, Report, Deep}
use Rattle.fiuraccju_c.specs.Packed.{unpacked, RoomFor, RefusalRoom, PacksAnswer}
use Rattle.fiuraccju_c.proofs.Unpacking.{answer_back}

-- no refusal has the number 0
pub numbered : (r : Refusal) → 1 ≤ (refusal_said r).number
unfolding refusal non_uniform
numbered Lent = lit≤ tt
numbered (Length f) = lit≤ tt
numbered (Count f) = lit≤ tt
numbered (Code f p) = lit≤ tt
numbered (Shape f p) = lit≤ tt
numbered (Range f p) = lit≤ tt
numbered (Untraced f e) = lit≤ tt
numbered (Base f e) = lit≤ tt
numbered (Capability f e) = lit≤ tt
numbered (Arguments f p) = lit≤ tt
numbered (NonUniform f e None) = lit≤ tt
numbered (NonUniform f e (Some (Expression x))) = lit≤ tt
numbered (NonUniform f e (Some Return)) = lit≤ tt
numbered (NonUniform f e (Some Discard)) = lit≤ tt
numbered (Full f p) = lit≤ tt
numbered (Report f) = lit≤ tt
numbered (Deep f p) = lit≤ tt

-- a report is far shorter than 2^56 bytes
pub short : (m : List ℕ) (r w n : ℕ) → answer (run_outcome version_1 m r w) ≡ fine n → n < 2 ^ 56
unfolding answer run_outcome
short m r w n e = go (run_outcome version_1 m r w) refl e
  where
    go : (o : Checked (List ℕ)) → run_outcome version_1 m r w ≡ o → answer o ≡ fine n → n < 2 ^ 56
    go (refused x) p q = absurd (not_fine q)
    go (fine b) p q =
        let a = bind_fine (first (lent version_1 r w)) _ p in
        let within : length b ≤ 65536 = in_limit_of_version_1 m b a.2 in
        subst (λ v. v < 2 ^ 56) (fine_is q) (omega (arith, within))
      where
        fine_is : {x y : ℕ} → fine x ≡ fine y → x ≡ y
        fine_is h = cc

-- so every answer of a run has room
pub has_room : (m : List ℕ) (r w : ℕ) (a : Checked ℕ) → a ≡ answer (run_outcome version_1 m r w) → RefusalRoom a → RoomFor a
has_room m r w (refused x) e h = h
has_room m r w (fine n) e h = short m r w n (sym e)

-- and what a run answers is what its packed answer gives back
pub ran_back : {m report work report' work' : List ℕ} {a : Checked ℕ} {x : ℕ} → Ran version_1 m report work a report' work' → PacksAnswer a x
    → Ran version_1 m report work (unpacked x) report' work'
ran_back {m} {report} {work} {a = a} {x = x} ran p =
    let back : unpacked x ≡ a = ap unpacked p.is_packed ∙ answer_back a (has_room m (length report) (length work) a ran.answers p.refusal_room) in
    record { answers = back ∙ ran.answers; reports = ran.reports; clears = ran.clears }
