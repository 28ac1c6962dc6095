use Rattle.std.proofs.Common.{◌≡◌, take}
use Rattle.std.specs.Prelude.{filter_map}
use Rattle.ecs_archetypes.specs.Holdings.{entity_at}
use Rattle.ecs_archetypes.specs.Housing.{holdings_of}
use Rattle.ecs_world.proofs.deletion.list_entities.Given as goal

abbrev pub invariant-loop-index : goal.invariant-loop-index
invariant-loop-index g l = l.entities.items ≡ filter_map (entity_at (holdings_of l.archetypes)) (take l.index-index l.indexes)
