use Rattle.std.proofs.Common.{subst}
use Rattle.world_facts.specs.Lists.{ListsTables}
use Rattle.world_facts.specs.Shown.{Shown}
use Rattle.world_facts.proofs.Lists.{lists_tables}
use Rattle.world_facts.proofs.WorldFacts.keeps_lists.Goals as goal

pub returns : goal.returns
returns g c =
    let s : Shown = record { world = c.self.inside.world.now; links = c.self.inside.links; every = c.self.inside.every.now } in
    subst ListsTables c.self.view_is (lists_tables s c.self.invariant.0.tables c.tables.ensures.lists)
