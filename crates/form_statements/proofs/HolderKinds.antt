-- What follows of a kind that holds others, or none (01, 2.8): through the definition alone, computed at kinds by
-- number.
use Prim.Native.Nat.{ℕ}
use mathlib.Core.Path.{◌≡◌, refl, sym, ap, ◌∙◌}
use mathlib.Core.Bool.{false, true}
use lib.Dec.{eqb}
use borrow.Author.Tests.{ne_eqb}
use Rattle.definitions.specs.Form.{holds_others}
use Rattle.form_records.proofs.CheckLists.{never}
use Rattle.form_statements.specs.Extents.{miscounts}

apart : (k i : ℕ) → holds_others k ≡ false → holds_others i ≡ true → k ≡ i → ⊥
apart k i e h q = never e (ap holds_others q ∙ h)

-- what holds no others is no Arm, and never has a wrong number of arms
pub leaf_no_arm : (k : ℕ) → holds_others k ≡ false → eqb k 11 ≡ false
unfolding holds_others
leaf_no_arm k e = ne_eqb k 11 (apart k 11 e refl)

pub leaf_counted : (k n : ℕ) → holds_others k ≡ false → miscounts k n ≡ false
unfolding holds_others miscounts
leaf_counted k n e = rw (ne_eqb k 8 (apart k 8 e refl), ne_eqb k 10 (apart k 10 e refl))

-- what holds others is neither an Emit nor a Call
pub holder_no_emit : (k : ℕ) → holds_others k ≡ true → k ≡ 0 → ⊥
unfolding holds_others
holder_no_emit k e q = apart 0 k refl e (sym q)

pub holder_no_call : (k : ℕ) → holds_others k ≡ true → k ≡ 6 → ⊥
unfolding holds_others
holder_no_call k e q = apart 6 k refl e (sym q)
