-- What the pieces of the code come to, in plain variables.
use Prim.Native.Nat.{ℕ, ◌+◌, ◌*◌, ◌<◌}
use native.Mathlib.Omega.{arith}
use mathlib.Core.Path.{◌≡◌, ap, ◌∙◌}
use mathlib.Core.List.{List}
use lib.ListN.{get_or, set, drop}
use lib.Seq.{get_or-drop}
use Rattle.std.specs.List.{between}
use Rattle.std.proofs.lemmas.List.Edits.{get_or-between}
use Rattle.definitions.specs.Bytes.{byte, be16, be32}
use Rattle.definitions.specs.Codes.{join}
use Rattle.memory.specs.Layout.{uses_at}
use Rattle.memory.specs.Changes.{assignable_of_line, anew, joined_with}
use Rattle.definitions.specs.Report.{global_from}

-- what is read where a line stands
pub assignable_read : (w : List ℕ) (e x : ℕ) → x ≡ be16 w (9 * e + 7) → global_from x ≡ assignable_of_line w e
unfolding assignable_of_line
assignable_read w e x p = rw p

-- a callee's use byte, read in a part of the report
pub joins : (w b : List ℕ) (at n i v : ℕ) → i < n → v ≡ join (get_or w (18432 + i) 0) (get_or (between at (at + n) b) i 0)
    → set w (18432 + i) v ≡ anew (joined_with b at) uses_at i w
unfolding anew joined_with uses_at byte
joins w b at n i v h e = rw (e, get_or-between b at (at + n) i 0 (omega arith))

-- numbers in a list's last part
byte_drop : (n : ℕ) (w : List ℕ) (p : ℕ) → byte (drop n w) p ≡ byte w (n + p)
unfolding byte
byte_drop n w p = get_or-drop n w p 0

be16_drop : (n : ℕ) (w : List ℕ) (p : ℕ) → be16 (drop n w) p ≡ be16 w (n + p)
unfolding be16
be16_drop n w p =
    let e : n + (p + 1) ≡ n + p + 1 = omega arith in
    let a : byte (drop n w) p ≡ byte w (n + p) = byte_drop n w p in
    let b : byte (drop n w) (p + 1) ≡ byte w (n + p + 1) = byte_drop n w (p + 1) ∙ ap (byte w) e in
    cc

pub be32_drop : (n : ℕ) (w : List ℕ) (p : ℕ) → be32 (drop n w) p ≡ be32 w (n + p)
unfolding be32
be32_drop n w p =
    let e : n + (p + 2) ≡ n + p + 2 = omega arith in
    let a : be16 (drop n w) p ≡ be16 w (n + p) = be16_drop n w p in
    let b : be16 (drop n w) (p + 2) ≡ be16 w (n + p + 2) = be16_drop n w (p + 2) ∙ ap (be16 w) e in
    cc
