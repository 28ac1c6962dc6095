use Rattle.std.proofs.Common.{◌≡◌, take}
use Rattle.ecs_world.specs.Changes.{with_names}
use Rattle.ecs_world.proofs.World.list_deaths.Given as goal

abbrev pub invariant-loop-entity : goal.invariant-loop-entity
invariant-loop-entity g l = l.died.items ≡ with_names l.self.state (take l.entity-index l.dead)
