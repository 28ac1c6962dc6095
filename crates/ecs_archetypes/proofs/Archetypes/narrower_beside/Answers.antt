-- The table is found or made, and each entity stands where it stood.
use Rattle.std.proofs.Common.{[]}
use Rattle.ecs_archetypes.proofs.StandingTables.{room_made}
use Rattle.ecs_archetypes.proofs.Archetypes.narrower_beside.Goals as goal

pub returns-clause-kept : goal.returns-clause-kept
returns-clause-kept g c = room_made c.self.inside.entities c.self.inside.tables c.args.self.now c.self.view_is c.self.invariant [] c.narrower.new.self c.narrower.ensures.kept
