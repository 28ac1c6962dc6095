use Rattle.std.proofs.Common.{take}
use Rattle.ecs_world.proofs.DeathLists.{AreForgotten}
use Rattle.ecs_world.proofs.deletion.forget.Given as goal

abbrev pub invariant-loop-entity : goal.invariant-loop-entity
invariant-loop-entity g l = AreForgotten l.initial.names l.names l.initial.schemas.entries l.schemas.entries (take l.entity-index l.dead)
