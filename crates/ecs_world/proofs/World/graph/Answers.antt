use Rattle.ecs_world.proofs.Standings.{graph_told}
use Rattle.ecs_world.proofs.World.graph.Goals as goal

pub returns : goal.returns
returns g c =
    let w = c.self.inside in
    rw (c.graph.ensures, ← c.self.view_is) (graph_told w.archetypes w.names w.schemas.entries w.pins w.accepted c.self.invariant)
