-- Indexes that are given out are greater.
use Rattle.ecs_model.proofs.steps.LivingIds.{zero_is_nothing}
use Rattle.ecs_model.proofs.trait_laws.index_zero_is_that_of_nothing.Goals as goal

pub returns : goal.returns
returns c = zero_is_nothing
