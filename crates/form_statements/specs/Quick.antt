-- What the quick tests find out of a statement t of f (01, 2.7 and 2.8), from the inside out.
use Rattle.std.specs.Prelude.{ℕ, ◌+◌, ◌<◌, ◌≡◌, List, true, false, ◌&&◌, ◌||◌, not, ltb, leb, eqb}
use Rattle.definitions.specs.Module as file
use Rattle.definitions.specs.Form as checks
use Rattle.definitions.specs.Roles as roles

-- a part of the pool of f: it lies in the pool and each operand is one of so many expressions; without operands it
-- begins at 0
pub record ValidPart (m : List ℕ) (f first count operands expressions : ℕ) : Type 0 where
  pub none_first : count ≡ 0 → first ≡ 0
  pub within : (eqb count 0 || leb (first + count) operands) ≡ true
  pub each_known : (j : ℕ) → j < count → file.pooled m f (first + j) < expressions

-- its count, number, first and operands are as its kind wants them
pub record ValidUses (m : List ℕ) (f t : ℕ) : Type 0 where
  pub count_fits : roles.s_takes (file.s_kind m f t) (file.s_count m f t) ≡ true
  pub number_used : (not (roles.s_has_number (file.s_kind m f t)) && ltb 0 (file.s_number m f t)) ≡ false
  pub first_used : (not (eqb (file.s_kind m f t) 0) && eqb (file.s_count m f t) 0 && ltb 0 (file.s_first m f t)) ≡ false
  pub in_pool : checks.s_in_pool m f t ≡ true
  pub none_absent : checks.s_some_absent m f t ≡ false
  pub none_unknown : checks.s_some_unknown m f t ≡ false
  pub range_fits : (eqb (file.s_kind m f t) 0 && (ltb (file.s_first m f t) (file.s_number m f t) || ltb (file.expressions m f) (file.s_first m f t))) ≡ false
  pub callee_lower : (eqb (file.s_kind m f t) 6 && leb f (file.s_number m f t)) ≡ false
  pub arguments_agree : (eqb (file.s_kind m f t) 6 && not (eqb (file.s_count m f t) (file.arguments m (file.s_number m f t)))) ≡ false

-- it is as its kind and an owner of a kind want it, in all but its end
pub record ValidUnderOwner (m : List ℕ) (f t owner : ℕ) : Type 0 where
  pub sub_fits : roles.s_has_sub (file.s_kind m f t) (file.s_sub m f t) ≡ true
  pub owned : checks.misowned (file.s_kind m f t) owner ≡ false
  pub falls : (eqb (file.s_sub m f t) 1 && not (eqb owner 9)) ≡ false
  pub uses : ValidUses m f t
