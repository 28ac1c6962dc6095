-- Every holder of an id stands in a table that has it, so a scan of those that are listed misses none.
use Rattle.std.proofs.Common.{◌↔◌, subst}
use Rattle.std.specs.Prelude.{Contains}
use Rattle.ecs_id.specs.declared.TableKey.{TableKey}
use Rattle.ecs_archetypes.specs.Scans.{HasMatch, HaveHolders}
use Rattle.ecs_archetypes.proofs.TableScans.{all_holders}
use Rattle.ecs_archetypes.proofs.graph.TableGraph.tables_of.Goals as goal

pub returns-clause-listed : goal.returns-clause-listed
returns-clause-listed g c = subst (λ h. (k : TableKey) → Contains c.tables_of.result.now k ↔ HasMatch h.tables c.args.pattern k) c.self.view_is c.tables_of.ensures.listed

pub returns-clause-holders : goal.returns-clause-holders
returns-clause-holders g c = subst (λ h. HaveHolders h c.args.pattern c.tables_of.result.now) c.self.view_is
    (all_holders (record { entities = c.self.inside.entities.now; tables = c.self.inside.tables.now }) c.self.invariant c.args.pattern c.tables_of.result.now c.tables_of.ensures.listed)
