use Rattle.ecs_model.proofs.LeastSets.{rounds_are_enough}
use Rattle.ecs_model.proofs.reach_laws.rounds_are_enough.Goals as goal

pub returns : goal.returns
returns c = rounds_are_enough
