-- The new entity enters the table that is found or made.
use Rattle.ecs_table.specs.Archetype.{zero_cells}
use Rattle.ecs_archetypes.specs.Housing.{holdings_of}
use Rattle.ecs_archetypes.proofs.ArchetypeCalls.{born_over}
use Rattle.ecs_archetypes.proofs.StandingTables.{last_grown, last_moved}
use Rattle.ecs_archetypes.proofs.Archetypes.create.Goals as goal

pub returns-in_err-key-clause-kept : goal.returns-in_err-key-clause-kept
returns-in_err-key-clause-kept g c = last_grown _ _ _ c.prepare.ensures.kept

pub returns-in_err-entity-clause-kept : goal.returns-in_err-entity-clause-kept
returns-in_err-entity-clause-kept g c = last_moved _ _ _ _ c.prepare.ensures.kept c.create_in.ensures.alike c.create_in.ensures.whole

pub returns-clause-born : goal.returns-clause-born
returns-clause-born g c = born_over (holdings_of c.create_in.new.self) (holdings_of c.prepare.new.self) (holdings_of c.args.self.now) c.in_ok-entity.entity (zero_cells c.args.ids.now)
    (c.in_ok-entity.ensures.born c.args.ids.now c.in_ok-key.ensures.shape) c.prepare.ensures.kept.held

pub returns-clause-kept : goal.returns-clause-kept
returns-clause-kept g c = last_moved _ _ _ _ c.prepare.ensures.kept c.create_in.ensures.alike c.create_in.ensures.whole
