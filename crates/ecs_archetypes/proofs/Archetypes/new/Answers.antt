-- No entity has a place yet, and no table stands.
use Rattle.ecs_archetypes.proofs.FirstHoldings.{sound_first}
use Rattle.ecs_archetypes.proofs.Soundness.{holdings}
use Rattle.ecs_archetypes.proofs.Archetypes.new.Goals as goal

pub invariant_of-result : goal.invariant_of-result
invariant_of-result g c = sound_first c.in_ok-entities.entities c.new-tables.result c.in_ok-entities.ensures.built_in c.in_ok-entities.ensures.well_formed c.new-tables.ensures.empty c.new-tables.ensures.whole

pub returns-clause-holdings : goal.returns-clause-holdings
returns-clause-holdings g c = holdings c.in_ok-entities.entities c.new-tables.result (sound_first c.in_ok-entities.entities c.new-tables.result c.in_ok-entities.ensures.built_in c.in_ok-entities.ensures.well_formed c.new-tables.ensures.empty c.new-tables.ensures.whole)

pub returns-clause-whole : goal.returns-clause-whole
returns-clause-whole g c = sound_first c.in_ok-entities.entities c.new-tables.result c.in_ok-entities.ensures.built_in c.in_ok-entities.ensures.well_formed c.new-tables.ensures.empty c.new-tables.ensures.whole
