use Rattle.std.proofs.Common.{◌↔◌, Contains, subst}
use Rattle.ecs_id.specs.declared.TableKey.{TableKey}
use Rattle.component_index.specs.Listings.{listed_in}
use Rattle.ecs_archetypes.specs.Scans.{HasMatch, HaveHolders}
use Rattle.ecs_archetypes.proofs.TableScans.{all_holders}
use Rattle.ecs_archetypes.proofs.graph.TableGraph.listings.Goals as goal

pub returns-clause-listed : goal.returns-clause-listed
returns-clause-listed g c pattern = subst (λ h. (k : TableKey) → Contains (listed_in c.listings.result pattern) k ↔ HasMatch h.tables pattern k) c.self.view_is (c.listings.ensures.listed pattern)

pub returns-clause-holders : goal.returns-clause-holders
returns-clause-holders g c pattern = subst (λ h. HaveHolders h pattern (listed_in c.listings.result pattern)) c.self.view_is
    (all_holders (record { entities = c.self.inside.entities.now; tables = c.self.inside.tables.now }) c.self.invariant pattern (listed_in c.listings.result pattern) (c.listings.ensures.listed pattern))
