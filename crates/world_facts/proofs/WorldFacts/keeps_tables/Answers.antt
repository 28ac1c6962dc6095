use Rattle.std.proofs.Common.{subst}
use Rattle.world_facts.specs.Kept.{KeepsTables}
use Rattle.world_facts.specs.Shown.{Shown}
use Rattle.world_facts.proofs.Tables.{keeps_tables}
use Rattle.world_facts.proofs.WorldFacts.keeps_tables.Goals as goal

pub returns : goal.returns
returns g c =
    let s : Shown = record { world = c.self.inside.world.now; links = c.self.inside.links; every = c.self.inside.every.now } in
    subst KeepsTables c.self.view_is (keeps_tables s c.self.invariant.0.tables)
