use Rattle.ecs_world.proofs.SeenGraph.{linked}
use Rattle.ecs_world.proofs.Standings.{links_told}
use Rattle.ecs_world.proofs.World.links.Goals as goal

pub new-requires : goal.new-requires
new-requires g c = record { linked = linked c.self.invariant c.size.result c.size.ensures }

pub returns : goal.returns
returns g c =
    let w = c.self.inside in
    rw (c.new.ensures, ← c.self.view_is) (links_told w.archetypes w.names w.schemas.entries w.pins w.accepted c.self.invariant c.size.result c.size.ensures c.new.result.lists)
