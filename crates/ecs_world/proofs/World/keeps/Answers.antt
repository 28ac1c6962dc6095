use Rattle.std.proofs.Common.{subst}
use Rattle.ecs_model.specs.steps.WellFormed.{IsWellFormed}
use Rattle.ecs_world.proofs.Standings.{state_is}
use Rattle.ecs_world.proofs.World.keeps.Goals as goal

pub returns : goal.returns
returns g c = subst IsWellFormed (state_is c.self.view_is) c.self.invariant.sound
