-- The arrays' lengths are those of the limits.
use Prim.Native.Nat.{◌+◌}
use mathlib.Core.Path.{◌≡◌, refl}
use Rattle.definitions.specs.Limits.{version_1}
use Rattle.limits.specs.Sizes.{functions_size, open_extents_size}

pub functions_fit : functions_size ≡ version_1.functions
unfolding version_1
functions_fit = refl

pub open_extents_fit : open_extents_size ≡ version_1.depth + 2
unfolding version_1
open_extents_fit = refl
