-- Kind by kind, as `own_origin` goes (Origins).
use Rattle.rules_expressions.proofs.Origins.{own_argument, own_space, own_local, own_none}
use Rattle.rules_expressions.proofs.FromForm.{argument_there, space_there}
use Rattle.rules_expressions.proofs.rules.own_origin.Goals as goal

pub argument-requires : goal.argument-requires
argument-requires c = (c.requires.sheet.stands, argument_there _ _ _ _ c.requires c.in-1.is)

pub space-requires : goal.space-requires
space-requires c = space_there _ _ _ _ c.requires c.in-2.is

pub returns-in-1 : goal.returns-in-1
returns-in-1 c = own_argument _ _ _ _ c.requires.is _ c.in-1.is c.argument.ensures

pub returns-in-2 : goal.returns-in-2
returns-in-2 c = search own_space

pub returns-in-3 : goal.returns-in-3
returns-in-3 c = own_local _ _ _ _ c.requires.is c.in-3.is

pub returns-in_default : goal.returns-in_default
returns-in_default c = own_none _ _ _ _ c.requires.is c.in_default.in_default-own.rest.0.0.1 c.in_default.in_default-own.rest.0.1 c.in_default.in_default-own.rest.1
