-- The numbers rise after the first reason that applies.
use Rattle.ecs_model.proofs.steps.RefusalNumbers.{first_reason_is_least}
use Rattle.ecs_model.proofs.trait_laws.the_least_reason_is_told.Goals as goal

pub returns : goal.returns
returns c = first_reason_is_least
