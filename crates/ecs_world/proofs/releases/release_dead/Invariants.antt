use Rattle.ecs_world.proofs.ReleasedTables.{IsLeftTo, mentions_entity}
use Rattle.ecs_world.proofs.releases.release_dead.Given as goal

abbrev pub invariant-loop-entity : goal.invariant-loop-entity
invariant-loop-entity g l = IsLeftTo mentions_entity l.dead l.initial.archetypes l.entity-index l.archetypes
