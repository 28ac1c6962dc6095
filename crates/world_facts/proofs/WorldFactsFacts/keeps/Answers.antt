use Rattle.world_facts.specs.Shown.{Shown}
use Rattle.world_facts.proofs.FactViews.{factual}
use Rattle.world_facts.proofs.WorldFactsFacts.keeps.Goals as goal

pub returns : goal.returns
returns g c =
    let s : Shown = record { world = c.self.inside.world.now; links = c.self.inside.links; every = c.self.inside.every.now } in
    rw (← c.self.view_is)
    (factual s c.size.ensures.links (rw (← c.tables-tables.ensures.tables) c.index.ensures.whole) (rw (← c.tables-tables.ensures.tables) c.store.ensures.rows) c.tables-tables.ensures.lists c.lists_holders.ensures c.self.invariant.0.sees c.self.invariant.1 c.self.invariant.0.tables c.graph.result c.graph.ensures c.index-2.ensures.whole)
