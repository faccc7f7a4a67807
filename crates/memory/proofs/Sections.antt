-- The table of sections: what is stored elsewhere leaves it alone, what is stored in it leaves the state alone, and
-- what the report says of the functions whose sections it names.
use Prim.Native.Nat.{ℕ, zero, suc, ◌+◌, ◌*◌, ◌-◌, ◌<◌, ◌≤◌}
use native.Mathlib.Omega.{arith}
use mathlib.Core.Logic.{◌≢◌}
use mathlib.Core.Bool.{Bool, true, false, cond}
use mathlib.Core.Path.{◌≡◌, refl, ap, ◌∙◌, sym}
use mathlib.Core.List.{List, [], ◌∷◌, ◌++◌}
use borrow.Author.Tests.{ltb-true, ltb-false}
use lib.Dec.{eqb, ltb}
use lib.Seq.{get_or-take, get_or-drop}
use lib.ListN.{take, drop, length, get_or, set, length-set}
use Rattle.definitions.specs.Bytes.{byte, be16, range}
use Rattle.definitions.specs.Codes.{QUERY, join}
use Rattle.numbers.specs.Stores.{store16, store32}
use Rattle.numbers.proofs.Laws.{length_store16, length_store32, byte_set_apart, byte_store16_apart, byte_store32_apart, be32_store32, be32_store32_apart}
use Rattle.memory.specs.Layout.{uses_at, pairs_at, mixed_at, sections_at}
use Rattle.memory.specs.View.{Shape, count_at, viewed}
use Rattle.memory.specs.Changes.{counted_once, with_use, referred, with_line, with_query, table, with_section}
use Rattle.memory.specs.Facts.{ValidShape}
use Rattle.memory.proofs.Records.{Outside}
use Rattle.memory.proofs.View.{state_is, known_kept, counts_kept, uses_kept, lists_kept, table_kept}
use Rattle.memory.specs.Changes.{section_at}
use Rattle.memory.proofs.PlainSteps.{be32_drop}
use mathlib.Core.List.{map}
use Rattle.definitions.specs.Report.{r_section, r_summary}
use Rattle.definitions.specs.Summary.{Section, no_section, summary_of}
use Rattle.memory.specs.Changes.{told}
use Rattle.memory.proofs.StoreState.{length_counted}

-- changes one after another
pub outside_wider : (w w' : List ℕ) (a n b k : ℕ) → Outside w w' a n → b ≤ a → a + n ≤ b + k → Outside w w' b k
outside_wider w w' a n b k out p q j f = out j (λ x y. f (omega arith) (omega arith))

pub outside_then : (w w₁ w₂ : List ℕ) (a n : ℕ) → Outside w w₁ a n → Outside w₁ w₂ a n → Outside w w₂ a n
outside_then w w₁ w₂ a n f g j p = g j p ∙ f j p

-- what a list has in common with another before a and from b on
pub outside_of : (w w' : List ℕ) (a b : ℕ) → a ≤ b → take a w' ≡ take a w → drop b w' ≡ drop b w → Outside w w' a (b - a)
unfolding byte
outside_of w w' a b k p q j f = go (ltb j a) refl
  where
    beyond : (c : Bool) → ltb j b ≡ c → a ≤ j → b ≤ j
    beyond true e i = absurd (f (omega arith) (omega (arith, ltb-true j b e)))
    beyond false e i = ltb-false j b e

    go : (c : Bool) → ltb j a ≡ c → get_or w' j 0 ≡ get_or w j 0
    go true e =
        let i : j < a = ltb-true j a e in
        sym (get_or-take a w' j 0 i) ∙ ap (λ l. get_or l j 0) p ∙ get_or-take a w j 0 i
    go false e =
        let i : a ≤ j = ltb-false j a e in
        let r : b ≤ j = beyond (ltb j b) refl i in
        let z : b + (j - b) ≡ j = omega arith in
        ap (λ n. get_or w' n 0) (sym z) ∙ sym (get_or-drop b w' (j - b) 0) ∙ ap (λ l. get_or l (j - b) 0) q ∙ get_or-drop b w (j - b) 0 ∙ ap (λ n. get_or w n 0) z

-- a use, a query
pub length_used : (w : List ℕ) (g u : ℕ) → length (with_use w g u) ≡ length w
unfolding with_use
length_used w g u = go (ltb (uses_at + g) pairs_at)
  where
    go : (b : Bool) → length (cond b (set w (uses_at + g) (join (byte w (uses_at + g)) u)) w) ≡ length w
    go true = length-set w (uses_at + g) (join (byte w (uses_at + g)) u)
    go false = refl

used_outside : (w : List ℕ) (g u : ℕ) → Outside w (with_use w g u) 0 pairs_at
unfolding with_use
used_outside w g u j p = go (ltb (uses_at + g) pairs_at) refl
  where
    go : (b : Bool) → ltb (uses_at + g) pairs_at ≡ b → byte (cond b (set w (uses_at + g) (join (byte w (uses_at + g)) u)) w) j ≡ byte w j
    go true e =
        let k = ltb-true (uses_at + g) pairs_at e in
        byte_set_apart w (uses_at + g) (join (byte w (uses_at + g)) u) j (λ x y. p (omega arith) (omega arith))
    go false e = refl

pub length_queried : (w : List ℕ) (g : ℕ) → length (with_query w g) ≡ length w
unfolding with_query
length_queried w g = go (ltb (uses_at + g) pairs_at) (eqb (byte w (uses_at + g)) 0)
  where
    go : (b c : Bool) → length (cond b (cond c (set w (uses_at + g) QUERY) w) w) ≡ length w
    go true true = length-set w (uses_at + g) QUERY
    go true false = refl
    go false c = refl

pub queried_outside : (w : List ℕ) (g : ℕ) → Outside w (with_query w g) 0 pairs_at
unfolding with_query
queried_outside w g j p = go (ltb (uses_at + g) pairs_at) refl (eqb (byte w (uses_at + g)) 0)
  where
    go : (b : Bool) → ltb (uses_at + g) pairs_at ≡ b → (c : Bool) → byte (cond b (cond c (set w (uses_at + g) QUERY) w) w) j ≡ byte w j
    go true e true =
        let k = ltb-true (uses_at + g) pairs_at e in
        byte_set_apart w (uses_at + g) QUERY j (λ x y. p (omega arith) (omega arith))
    go true e false = refl
    go false e c = refl

-- a reference
pub length_referred : (u : ℕ) (w : List ℕ) (e : ℕ) → length (referred u w e) ≡ length w
unfolding referred
length_referred u w e = length_used (counted_once w e) (be16 w (9 * e + 7)) u ∙ length_counted w e

counted_before : (w : List ℕ) (e : ℕ) → 9 * e + 9 ≤ pairs_at → Outside w (counted_once w e) 0 pairs_at
unfolding counted_once
counted_before w e k j p = byte_store32_apart w (9 * e + 3) (count_at w (9 * e) + 1) j (λ x y. p (omega arith) (omega arith))

pub referred_outside : (u : ℕ) (w : List ℕ) (e : ℕ) → 9 * e + 9 ≤ pairs_at → Outside w (referred u w e) 0 pairs_at
unfolding referred
referred_outside u w e k =
    outside_then w (counted_once w e) (with_use (counted_once w e) (be16 w (9 * e + 7)) u) 0 pairs_at (counted_before w e k) (used_outside (counted_once w e) (be16 w (9 * e + 7)) u)

-- a line
pub length_line : (w : List ℕ) (e o r a : ℕ) → length (with_line w e o r a) ≡ length w
unfolding with_line
length_line w e o r a = length_store16 (set (store16 w (9 * e) o) (9 * e + 2) r) (9 * e + 7) a ∙ length-set (store16 w (9 * e) o) (9 * e + 2) r ∙ length_store16 w (9 * e) o

pub line_outside : (w : List ℕ) (e o r a : ℕ) → 9 * e + 9 ≤ pairs_at → Outside w (with_line w e o r a) 0 pairs_at
unfolding with_line
line_outside w e o r a k j p =
    byte_store16_apart (set (store16 w (9 * e) o) (9 * e + 2) r) (9 * e + 7) a j (λ x y. p (omega arith) (omega arith))
    ∙ byte_set_apart (store16 w (9 * e) o) (9 * e + 2) r j (λ x y. p (omega arith) (omega arith))
    ∙ byte_store16_apart w (9 * e) o j (λ x y. p (omega arith) (omega arith))

-- what changes before the pairs leaves the table as it is
pub table_before : (w w' : List ℕ) → Outside w w' 0 pairs_at → length w' ≡ length w → table w' ≡ table w
unfolding pairs_at sections_at
table_before w w' out l = table_kept w w' 0 pairs_at out l (omega arith)

-- a section's place, stored and read again
section_outside : (w : List ℕ) (f at : ℕ) → Outside w (with_section w f at) (sections_at + 4 * f) 4
unfolding with_section
section_outside w f at j a = byte_store32_apart w (sections_at + 4 * f) at j a

pub length_section : (w : List ℕ) (f at : ℕ) → length (with_section w f at) ≡ length w
unfolding with_section
length_section w f at = length_store32 w (sections_at + 4 * f) at

pub viewed_section : (h : Shape) → ValidShape h → (w : List ℕ) (f at : ℕ) → viewed h (with_section w f at) ≡ viewed h w
unfolding viewed uses_at pairs_at mixed_at sections_at
viewed_section h fit w f at =
    let w' = with_section w f at in
    let out = section_outside w f at in
    state_is (known_kept h fit w w' (sections_at + 4 * f) 4 out (λ x y. omega arith)) (counts_kept h fit w w' (sections_at + 4 * f) 4 out (λ x y. omega arith))
    (uses_kept h fit w w' (sections_at + 4 * f) 4 out (λ x y. omega (arith, fit.globals_in)))
    (lists_kept h fit w w' (sections_at + 4 * f) 4 out (λ x y. omega (arith, fit.pairs_in)) (λ x y. omega (arith, fit.mixed_in)))

pub section_same : (w : List ℕ) (f at : ℕ) → sections_at + 4 * f + 4 ≤ length w → section_at (table (with_section w f at)) f ≡ at
unfolding section_at table with_section
section_same w f at k = be32_drop sections_at (store32 w (sections_at + 4 * f) at) (4 * f) ∙ be32_store32 w (sections_at + 4 * f) at k

pub section_other : (w : List ℕ) (f at g : ℕ) → g ≢ f → section_at (table (with_section w f at)) g ≡ section_at (table w) g
unfolding section_at table with_section
section_other w f at g d =
    be32_drop sections_at (store32 w (sections_at + 4 * f) at) (4 * g)
    ∙ be32_store32_apart w (sections_at + 4 * f) at (sections_at + 4 * g) (λ x y. d (omega arith))
    ∙ sym (be32_drop sections_at w (4 * g))

-- what the report says of the functions that are done
map_range : {A : Type 0} (f : ℕ → A) (a n i : ℕ) (d : A) → i < n → get_or (map f (range a n)) i d ≡ f (a + i)
unfolding range
map_range f a zero i d h = absurd (omega arith)
map_range f a (suc n) zero d h = ap f (omega arith)
map_range f a (suc n) (suc i) d h = map_range f (suc a) n i d (omega arith) ∙ ap f (omega arith)

pub told_at : (g : ℕ) (b t : List ℕ) (f i : ℕ) → i < f → get_or (told g b t f) i no_section ≡ r_section g b (section_at t i)
unfolding told
told_at g b t f i k = map_range (λ j. r_section g b (section_at t j)) 0 f i no_section k ∙ ap (λ j. r_section g b (section_at t j)) (omega arith)

pub told_summary : (g : ℕ) (b t : List ℕ) (f i : ℕ) → i < f → summary_of (told g b t f) i ≡ r_summary g b (section_at t i)
unfolding summary_of r_section
told_summary g b t f i k = ap (λ (s : Section). s.summary) (told_at g b t f i k)

map_same : {A : Type 0} (f f' : ℕ → A) (a n : ℕ) → ((i : ℕ) → i < a + n → f' i ≡ f i) → map f' (range a n) ≡ map f (range a n)
unfolding range
map_same f f' a zero h = refl
map_same f f' a (suc n) h =
    let x : f' a ≡ f a = h a (omega arith) in
    let y : map f' (range (suc a) n) ≡ map f (range (suc a) n) = map_same f f' (suc a) n (λ i k. h i (omega arith)) in
    cc

-- the same of another report or table, where each section is the same
pub told_same : (g : ℕ) (b b' t t' : List ℕ) (f : ℕ) → ((i : ℕ) → i < f → r_section g b' (section_at t' i) ≡ r_section g b (section_at t i))
    → told g b' t' f ≡ told g b t f
unfolding told
told_same g b b' t t' f h = map_same (λ i. r_section g b (section_at t i)) (λ i. r_section g b' (section_at t' i)) 0 f (λ i k. h i (omega arith))

map_more : {A : Type 0} (f : ℕ → A) (a n : ℕ) → map f (range a (n + 1)) ≡ map f (range a n) ++ (f (a + n) ∷ [])
unfolding range
map_more f a zero = ap (λ x. f x ∷ []) (omega arith)
map_more f a (suc n) =
    let e : suc n + 1 ≡ suc (n + 1) = omega arith in
    let q : suc a + n ≡ a + suc n = omega arith in
    ap (λ k. map f (range a k)) e ∙ ap (λ l. f a ∷ l) (map_more f (suc a) n ∙ ap (λ x. map f (range (suc a) n) ++ (f x ∷ [])) q)

-- one function more
pub told_more : (g : ℕ) (b t : List ℕ) (f : ℕ) → told g b t (f + 1) ≡ told g b t f ++ (r_section g b (section_at t f) ∷ [])
unfolding told
told_more g b t f = map_more (λ i. r_section g b (section_at t i)) 0 f ∙ ap (λ x. map (λ i. r_section g b (section_at t i)) (range 0 f) ++ (r_section g b (section_at t x) ∷ [])) (omega arith)
