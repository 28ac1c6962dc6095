-- Each row is of the entity that has its place there.
use Rattle.std.proofs.Common.{subst}
use Rattle.ecs_archetypes.specs.Scans.{HaveRows}
use Rattle.ecs_archetypes.proofs.TableScans.{have_rows}
use Rattle.ecs_archetypes.proofs.graph.TableGraph.store.Goals as goal

pub returns-clause-rows : goal.returns-clause-rows
returns-clause-rows g c = subst HaveRows c.self.view_is (have_rows (record { entities = c.self.inside.entities.now; tables = c.self.inside.tables.now }) c.self.invariant)
