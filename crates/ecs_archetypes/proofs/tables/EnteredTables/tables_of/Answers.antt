-- Exactly the tables that stand are entered.
use Rattle.ecs_archetypes.proofs.Releases.{all_matched}
use Rattle.ecs_archetypes.proofs.tables.EnteredTables.tables_of.Goals as goal

pub returns-clause-listed : goal.returns-clause-listed
returns-clause-listed g c =
    rw (← c.self.view_is) (all_matched c.self.inside.store c.self.inside.index c.self.invariant c.args.pattern c.tables_of.result.now c.tables_of.ensures.listed)
