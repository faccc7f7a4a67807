use Rattle.std.proofs.Common.{arith}
use Rattle.std.proofs.lemmas.Grind.{common_steps}
use Rattle.memory.specs.Changes.{mask_of}
use Rattle.definitions.specs.Codes.{READ, WRITE}
use Rattle.definitions.specs.Roles.{use_of, s_role}
use Rattle.rules_statements.proofs.operands.role.Goals as goal

pub returns-in-5-eq0 : goal.returns-in-5-eq0
unfolding use_of s_role mask_of READ WRITE
returns-in-5-eq0 c = grind (arith, common_steps)

pub returns-in_default : goal.returns-in_default
unfolding use_of s_role mask_of READ WRITE
returns-in_default c = grind (arith, common_steps)

pub returns-in_default-2 : goal.returns-in_default-2
unfolding use_of s_role mask_of READ WRITE
returns-in_default-2 c = grind (arith, common_steps)
