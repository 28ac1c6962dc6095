use Rattle.ecs_archetypes.specs.Linked.{Linked, tables_under}
use Rattle.ecs_archetypes.proofs.LinkHolders.{all_listed}
use Rattle.ecs_archetypes.proofs.links.LinksHolders.lists_holders.Goals as goal

pub returns : goal.returns
returns g c pattern =
    let inside = c.self.inside in
    let l : Linked = record { housing = inside.archetypes.now; size = inside.size; lists = inside.listings } in
    let lists = c.self.invariant.lists in
    rw (← c.self.view_is) (all_listed l (rw (← c.graph-graph.ensures) c.index.ensures.whole) (rw (← c.graph-graph.ensures) c.store.ensures.rows) pattern (tables_under l pattern) (lists.listed pattern) (lists.holders pattern))
