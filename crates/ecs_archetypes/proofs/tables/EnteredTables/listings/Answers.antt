-- Exactly the tables that stand are entered.
use Rattle.component_index.specs.Listings.{listed_in}
use Rattle.ecs_archetypes.proofs.Releases.{all_matched}
use Rattle.ecs_archetypes.proofs.tables.EnteredTables.listings.Goals as goal

pub returns-clause-listed : goal.returns-clause-listed
returns-clause-listed g c pattern =
    rw (← c.self.view_is) (all_matched c.self.inside.store c.self.inside.index c.self.invariant pattern (listed_in c.listings.result pattern) (c.listings.ensures.entered pattern))
