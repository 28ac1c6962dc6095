-- A count says nothing but that its entity lives.
use Rattle.ecs_model.proofs.steps.PinCounts.{pins_keep}
use Rattle.ecs_model.proofs.trait_laws.pins_keep_the_world_well_formed.Goals as goal

pub returns : goal.returns
returns c = pins_keep
