-- 01, 11: the starred cases together, as one statement over their table, with whole reports or whole refusals; the others as a second, those
-- of a Loop's arms as a third, and what small limits reach as a fourth.
use mathlib.Core.List.{map}
use mathlib.Core.Path.{◌≡◌, refl}
use Rattle.definitions.specs.Limits.{version_1}
use Rattle.definitions.specs.Analyse.{analyse}
use Rattle.definitions.specs.Run.{run}
use Rattle.definitions.specs.Cases.{starred, others, loops, small, at_small_limits}

pub starred_cases : map (λ c. analyse version_1 c.bytes) starred ≡ map (λ c. c.answer) starred
unfolding run starred
starred_cases = refl

pub other_cases : map (λ c. analyse version_1 c.bytes) others ≡ map (λ c. c.answer) others
unfolding run others
other_cases = refl

pub loop_cases : map (λ c. analyse version_1 c.bytes) loops ≡ map (λ c. c.answer) loops
unfolding run loops
loop_cases = refl

pub small_limit_cases : map (λ c. analyse small c.bytes) at_small_limits ≡ map (λ c. c.answer) at_small_limits
unfolding run small at_small_limits
small_limit_cases = refl
