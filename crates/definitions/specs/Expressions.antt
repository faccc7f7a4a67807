-- 01, 3.5 to 3.8: one expression after another.
use Rattle.std.specs.Prelude.{ℕ, List, [], ◌∷◌, ◌++◌, Bool, cond, ◌&&◌, ◌||◌, not, ltb, eqb}
use Rattle.std.proofs.Math.Option.{Option, none, some}
use Rattle.definitions.specs.Limits.{Limits}
use Rattle.definitions.specs.Module.{kind, sub, number, operand, argument_byte, space, capabilities}
use Rattle.definitions.specs.Codes.{uniform_space, buffer_space, SAMPLED, STORAGE_IMAGES, UNIFORM_BUFFERS, STORAGE_BUFFERS, DERIVATIVE, IMPLICIT_LEVEL, COOPERATIVE, meets}
use Rattle.definitions.specs.Checks.{refusal, Checked, fine, ◌>>=◌, Check, ◌⇒◌, first}
use Rattle.definitions.specs.Origin.{Origin, nowhere, from_expression, or_else, has_origin}
use Rattle.definitions.specs.Pairs.{Lists, sample}
use Rattle.definitions.specs.State.{State, known_of, Operand, operands_of, refer_all, carried}
use Rattle.definitions.specs.Summary.{Section, summary_of}

-- 3.5 The origin of the first present operand that has one; else none
unfoldable pub first_origin : List Operand → State → Origin
first_origin [] s = nowhere
first_origin (o ∷ os) s = or_else (known_of s o.target).origin (first_origin os s)

-- 3.5 Kind 3, a kind 1 whose argument byte is 0, and a kind 2 in a space that is not uniform have their own number as origin
unfoldable pub own_origin : List ℕ → ℕ → ℕ → Bool
own_origin m f e =
    eqb (kind m f e) 3
    || (eqb (kind m f e) 1 && eqb (argument_byte m f (number m f e)) 0)
    || (eqb (kind m f e) 2 && not (uniform_space (space m (number m f e))))

-- 3.5 Kind 4 has the origin of its function's summary; else it is that of the first present operand that has one
unfoldable pub origin_of : List ℕ → List Section → ℕ → ℕ → State → Origin
origin_of m done f e s =
    cond (own_origin m f e) (from_expression e)
    (cond (eqb (kind m f e) 4) (summary_of done (number m f e)).origin
    (first_origin (operands_of m f e) s))

-- 3.6 Kind 8 has derivative; kind 13 with sub Auto or Bias has implicit level; kinds 17 and 18 have cooperative; the others have none
unfoldable pub own_requirements : ℕ → ℕ → ℕ
own_requirements kind sub =
    cond (eqb kind 8) DERIVATIVE
    (cond (eqb kind 13 && (eqb sub 0 || eqb sub 3)) IMPLICIT_LEVEL
    (cond (eqb kind 17 || eqb kind 18) COOPERATIVE 0))

-- 3.6 kind 4 has those of its function's summary
unfoldable pub requirements_of : List ℕ → List Section → ℕ → ℕ → ℕ
requirements_of m done f e =
    cond (eqb (kind m f e) 4) (summary_of done (number m f e)).requirements (own_requirements (kind m f e) (sub m f e))

-- 3.3 Kind 2 starts with its own global as assignable, every other kind with none
unfoldable pub own_global : List ℕ → ℕ → ℕ → Option ℕ
own_global m f e = cond (eqb (kind m f e) 2) (some (number m f e)) none

-- 3.7 the base of an Access, and its index
unfoldable pub base : List ℕ → ℕ → ℕ → ℕ
base m f e = operand m f e 0

unfoldable pub base_space : List ℕ → ℕ → ℕ → ℕ
base_space m f e = space m (number m f (base m f e))

unfoldable pub index_origin : List ℕ → ℕ → ℕ → State → Origin
index_origin m f e s = (known_of s (operand m f e 1)).origin

-- 3.7 the capability that the base asks for: bit 2 for sub 1, bit 1 for sub 2, and for sub 3 bit 4 in Uniform, bit 8 in Storage
unfoldable pub capability_asked : List ℕ → ℕ → ℕ → ℕ
capability_asked m f e =
    cond (eqb (sub m f e) 1) STORAGE_IMAGES
    (cond (eqb (sub m f e) 2) SAMPLED
    (cond (eqb (base_space m f e) 6) UNIFORM_BUFFERS STORAGE_BUFFERS))

-- 3.7 Access to a binding array (kind 5, sub 1 to 3). 8 (f, e): sub 3, and the base is not a kind 2 whose global lies in Uniform or
-- Storage. 9 (f, e): the index has an origin, and the capability is missing that the base asks for
unfoldable pub access : List ℕ → ℕ → ℕ → State → List Check
access m f e s =
    (eqb (kind m f e) 5 && eqb (sub m f e) 3 && not (eqb (kind m f (base m f e)) 2 && buffer_space (base_space m f e)) ⇒ refusal 8 f e)
    ∷ (eqb (kind m f e) 5 && ltb 0 (sub m f e) && has_origin (index_origin m f e s) && not (meets (capabilities m) (capability_asked m f e)) ⇒ refusal 9 f e)
    ∷ []

-- 4.5 only kind 13 samples
unfoldable pub sampled : Limits → List ℕ → ℕ → ℕ → Lists → Checked Lists
sampled L m f e l = cond (eqb (kind m f e) 13) (sample L m f e l) (fine l)

-- the state once e is known: its operands have counted and marked, and its own line stands behind those before it
unfoldable pub with_expression : List ℕ → List Section → ℕ → ℕ → Lists → Option ℕ → State → State
with_expression m done f e l assignable s =
    let s' = refer_all (operands_of m f e) s in
    record {
      known = s.known ++ (record { origin = origin_of m done f e s; requirements = requirements_of m done f e; assignable = assignable } ∷ []);
      counts = s'.counts;
      uses = s'.uses;
      lists = l;
    }

-- 3.8 Order within a record: 8 and 9 of an Access, or 7 and 12 of a sampling, come before its operands are counted
unfoldable pub expression_step : Limits → List ℕ → List Section → ℕ → ℕ → State → Checked State
expression_step L m done f e s = do
  _ ← first (access m f e s)
  l ← sampled L m f e s.lists
  fine (with_expression m done f e l (carried (operands_of m f e) s (own_global m f e)) s)
