-- 01, 4.3 and 4.4: the ends of a sampling, tracing them, and the order of pairs.
use Rattle.std.specs.Prelude.{ℕ, List, Bool, true, false, cond, ◌&&◌, ◌||◌, ltb, eqb}
use Rattle.definitions.specs.Module.{kind, number, operand, s_operand}
use Rattle.definitions.specs.Checks.{Checked, refused, fine, refusal}

-- 4.4 each end a global or an argument of the function
pub data End : Type 0 where
  glob : ℕ → End
  arg : ℕ → End

pub record Pair : Type 0 where
  pub image : End
  pub sampler : End

-- what tracing answers: a global, an argument, or neither
pub data Traced : Type 0 where
  reaches : End → Traced
  neither : Traced

-- 4.3 Tracing an end of a sampling from an expression: kind 2 is that global; kind 1 that argument; kind 5 or 6 whose base operand is
-- itself a kind 2 is that global. Anything else can't be traced
unfoldable pub trace : List ℕ → ℕ → ℕ → Traced
trace m f e =
    cond (eqb (kind m f e) 2) (reaches (glob (number m f e)))
    (cond (eqb (kind m f e) 1) (reaches (arg (number m f e)))
    (cond ((eqb (kind m f e) 5 || eqb (kind m f e) 6) && eqb (kind m f (operand m f e 0)) 2)
    (reaches (glob (number m f (operand m f e 0))))
    neither))

-- 4.3 refusal 7, here and nowhere else; 4.5 and 4.6 say which place
unfoldable pub end_or_7 : ℕ → ℕ → Traced → Checked End
end_or_7 f place (reaches x) = fine x
end_or_7 f place neither = refused (refusal 7 f place)

-- 4.6 an end of the callee, in the Call t of f: replaced, where it is an argument, by what the Call's operand of that number traces to
unfoldable pub replaced : List ℕ → ℕ → ℕ → End → Traced
replaced m f t (glob g) = reaches (glob g)
replaced m f t (arg a) = trace m f (s_operand m f t a)

-- 4.4 the pairs, where both ends are globals, and the mixed pairs, where at least one is an argument
unfoldable pub is_global : End → Bool
is_global (glob g) = true
is_global (arg a) = false

unfoldable pub both_global : Pair → Bool
both_global p = is_global p.image && is_global p.sampler

-- 4.4 the lists ascend: by image, then by sampler; globals before arguments, then by number
unfoldable pub end_before : End → End → Bool
end_before (glob x) (glob y) = ltb x y
end_before (glob x) (arg y) = true
end_before (arg x) (glob y) = false
end_before (arg x) (arg y) = ltb x y

unfoldable pub same_end : End → End → Bool
same_end (glob x) (glob y) = eqb x y
same_end (glob x) (arg y) = false
same_end (arg x) (glob y) = false
same_end (arg x) (arg y) = eqb x y

unfoldable pub before : Pair → Pair → Bool
before p q = end_before p.image q.image || (same_end p.image q.image && end_before p.sampler q.sampler)
