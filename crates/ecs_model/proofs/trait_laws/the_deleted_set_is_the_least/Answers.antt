-- There are as many rounds as live entities.
use Rattle.ecs_model.proofs.steps.DeletedSets.{deleted_is_least}
use Rattle.ecs_model.proofs.trait_laws.the_deleted_set_is_the_least.Goals as goal

pub returns : goal.returns
returns c = deleted_is_least
