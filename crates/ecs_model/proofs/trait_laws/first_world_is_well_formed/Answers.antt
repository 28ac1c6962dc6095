-- Each entry of the first world is looked at.
use Rattle.ecs_model.proofs.steps.FirstTraits.{first_world_keeps_traits}
use Rattle.ecs_model.proofs.trait_laws.first_world_is_well_formed.Goals as goal

pub returns : goal.returns
returns c = first_world_keeps_traits
