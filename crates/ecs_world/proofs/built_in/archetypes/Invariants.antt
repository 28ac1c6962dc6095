use Rattle.ecs_world.specs.BuiltIn.{IsSettled}
use Rattle.ecs_archetypes.specs.Housing.{holdings_of}
use Rattle.ecs_world.proofs.built_in.archetypes.Given as goal

abbrev pub invariant-loop-settled : goal.invariant-loop-settled
invariant-loop-settled g l = IsSettled (holdings_of l.archetypes) l.settled
