-- Sub by sub, as `capability_asked` goes (AccessChecks).
use Rattle.rules_expressions.proofs.AccessChecks.{asked_images, asked_sampled, asked_uniform, asked_storage}
use Rattle.rules_expressions.proofs.access.wanted.Goals as goal

pub space_of-requires : goal.space_of-requires
space_of-requires c = (c.requires.0.sheet, c.requires.1.there, c.requires.1.global c.in_default.in_default-own.rest.0.1 c.in_default.in_default-own.rest.1)

pub returns-in-1 : goal.returns-in-1
returns-in-1 c = asked_images _ _ _ _ c.requires.0.is c.in-1.is

pub returns-in-2 : goal.returns-in-2
returns-in-2 c = asked_sampled _ _ _ _ c.requires.0.is c.in-2.is

pub returns-then-space_of-eq-UNIFORM : goal.returns-then-space_of-eq-UNIFORM
returns-then-space_of-eq-UNIFORM c = asked_uniform _ _ _ _ c.requires.0.is _ _ c.in_default.in_default-own.rest.0.1 c.in_default.in_default-own.rest.1 c.requires.1.is c.space_of.ensures c.if-space_of-eq-UNIFORM.true

pub returns-else-space_of-eq-UNIFORM : goal.returns-else-space_of-eq-UNIFORM
returns-else-space_of-eq-UNIFORM c = asked_storage _ _ _ _ c.requires.0.is _ _ c.in_default.in_default-own.rest.0.1 c.in_default.in_default-own.rest.1 c.requires.1.is c.space_of.ensures c.if-space_of-eq-UNIFORM.false
