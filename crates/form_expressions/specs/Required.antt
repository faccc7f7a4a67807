-- 01, 4.1 as the code's tables have it: how many operands of a kind, from the first on, must be there.
use Rattle.std.specs.Prelude.{ℕ, ◌≤◌, ◌≡◌, List, [], ◌∷◌, true, get_or}
use Rattle.definitions.specs.Roles.{has_sub, takes}
use Rattle.module.specs.declared.Expression.{Expression}

unfoldable pub required : List ℕ
required = 0 ∷ 0 ∷ 0 ∷ 0 ∷ 0 ∷ 2 ∷ 1 ∷ 1 ∷ 1 ∷ 2 ∷ 3 ∷ 65535 ∷ 1 ∷ 3 ∷ 2 ∷ 1 ∷ 1 ∷ 2 ∷ 3 ∷ []

unfoldable pub required_of : ℕ → ℕ
required_of kind = get_or required kind 0

-- a record whose kind, sub and count are those of 4.1
pub record ValidFields (x : Expression) : Type 0 where
  pub kind_known : x.kind ≤ 18
  pub sub_known : has_sub x.kind x.sub ≡ true
  pub count_fits : takes x.kind x.count ≡ true
