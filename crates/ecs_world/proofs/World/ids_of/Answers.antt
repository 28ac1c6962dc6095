use Rattle.std.proofs.Common.{◌∙◌}
use Rattle.ecs_world.proofs.States.{ids_told}
use Rattle.ecs_world.proofs.Standings.{state_is}
use Rattle.ecs_world.proofs.World.ids_of.Goals as goal

pub returns : goal.returns
returns g c =
    rw (← state_is c.self.view_is) (c.ids_of.ensures ∙ ids_told c.self.invariant c.args.entity)
