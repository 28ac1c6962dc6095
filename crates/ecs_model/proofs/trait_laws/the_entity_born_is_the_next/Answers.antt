-- One index alone is live after the command and not before.
use Rattle.ecs_model.proofs.steps.BornEntities.{born_is_made}
use Rattle.ecs_model.proofs.trait_laws.the_entity_born_is_the_next.Goals as goal

pub returns : goal.returns
returns c = born_is_made
