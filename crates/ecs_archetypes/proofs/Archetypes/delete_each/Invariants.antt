use Rattle.std.proofs.Common.{drop}
use Rattle.ecs_archetypes.proofs.DeathLists.{AreDeleted}
use Rattle.ecs_archetypes.proofs.Archetypes.delete_each.Given as goal

abbrev pub invariant-loop-entity : goal.invariant-loop-entity
invariant-loop-entity g l = AreDeleted l.initial.self l.dead l.self (drop l.entity-index l.dead)
