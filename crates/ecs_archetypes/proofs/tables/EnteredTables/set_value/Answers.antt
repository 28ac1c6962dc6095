-- The tables that stand have the ids that they had.
use Rattle.ecs_archetypes.proofs.EnteredTables.{entered_alike}
use Rattle.ecs_archetypes.proofs.tables.EnteredTables.set_value.Goals as goal

pub set_value-requires-clause-size : goal.set_value-requires-clause-size
set_value-requires-clause-size g c = rw c.self.view_is c.requires.size

pub invariant_of-self : goal.invariant_of-self
invariant_of-self g c = entered_alike c.self.inside.store c.set_value.new.self c.self.inside.index c.set_value.ensures.shapes c.self.invariant

pub returns-clause-rows : goal.returns-clause-rows
returns-clause-rows g c = rw (← c.self.view_is) c.set_value.ensures.rows

pub returns-clause-alike : goal.returns-clause-alike
returns-clause-alike g c = rw (← c.self.view_is) (record { shapes = c.set_value.ensures.shapes; last = c.set_value.ensures.last })
