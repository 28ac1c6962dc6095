use Rattle.ecs_model.proofs.LeastSets.{chains_are_short}
use Rattle.ecs_model.proofs.reach_laws.chains_are_short.Goals as goal

pub returns : goal.returns
returns c = chains_are_short
