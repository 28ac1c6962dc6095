-- The tables that stand have the ids that they had.
use Rattle.ecs_archetypes.proofs.EnteredTables.{entered_alike}
use Rattle.ecs_archetypes.proofs.tables.EnteredTables.set_column.Goals as goal

pub set_column-requires : goal.set_column-requires
set_column-requires g c = rw c.self.view_is c.requires

pub invariant_of-self : goal.invariant_of-self
invariant_of-self g c = entered_alike c.self.inside.store c.set_column.new.self c.self.inside.index c.set_column.ensures.shapes c.self.invariant

pub returns-clause-rows : goal.returns-clause-rows
returns-clause-rows g c = rw (← c.self.view_is) c.set_column.ensures.rows

pub returns-clause-alike : goal.returns-clause-alike
returns-clause-alike g c = rw (← c.self.view_is) (record { shapes = c.set_column.ensures.shapes; last = c.set_column.ensures.last })
