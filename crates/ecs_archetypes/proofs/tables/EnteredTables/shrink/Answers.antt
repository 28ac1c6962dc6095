-- The tables that stand have the ids that they had.
use Rattle.ecs_archetypes.proofs.EnteredTables.{entered_alike}
use Rattle.ecs_archetypes.proofs.tables.EnteredTables.shrink.Goals as goal

pub invariant_of-self : goal.invariant_of-self
invariant_of-self g c = entered_alike c.self.inside.store c.shrink_to.new.self c.self.inside.index c.shrink_to.ensures.shapes c.self.invariant

pub returns-clause-rows : goal.returns-clause-rows
returns-clause-rows g c = rw (← c.self.view_is) c.shrink_to.ensures.rows

pub returns-clause-alike : goal.returns-clause-alike
returns-clause-alike g c = rw (← c.self.view_is) (record { shapes = c.shrink_to.ensures.shapes; last = c.shrink_to.ensures.last })
