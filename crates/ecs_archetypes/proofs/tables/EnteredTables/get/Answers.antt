use Rattle.ecs_archetypes.proofs.tables.EnteredTables.get.Goals as goal

pub returns : goal.returns
returns g c = record { table = rw (← c.self.view_is) c.get.ensures.table }
