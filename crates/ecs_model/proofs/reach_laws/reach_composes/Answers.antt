use Rattle.ecs_model.proofs.ReachSteps.{reaches_compose}
use Rattle.ecs_model.proofs.reach_laws.reach_composes.Goals as goal

pub returns : goal.returns
returns c = reaches_compose
