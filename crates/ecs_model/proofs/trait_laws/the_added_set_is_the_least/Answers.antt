-- There are as many rounds as facts that a member can be.
use Rattle.ecs_model.proofs.steps.AddedSets.{added_is_least}
use Rattle.ecs_model.proofs.trait_laws.the_added_set_is_the_least.Goals as goal

pub returns : goal.returns
returns c = added_is_least
