use Rattle.ecs_world.proofs.NameLists.{name_is}
use Rattle.ecs_world.proofs.States.{name_told}
use Rattle.ecs_world.proofs.Standings.{state_is}
use Rattle.ecs_world.proofs.World.name_of.Goals as goal

pub returns : goal.returns
returns g c =
    let w = c.self.inside in
    rw (← state_is c.self.view_is) (name_told c.self.invariant c.in_ok-entity.entity c.args.index _ c.in_ok-entity.ensures (name_is w.names c.self.invariant.one_to_one c.in_ok-entity.entity _ c.name_of.ensures.named))
