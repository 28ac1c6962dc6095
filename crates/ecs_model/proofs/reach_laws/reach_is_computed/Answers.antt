use Rattle.ecs_model.proofs.ReachTests.{reach_is_computed}
use Rattle.ecs_model.proofs.reach_laws.reach_is_computed.Goals as goal

pub returns : goal.returns
returns c = reach_is_computed
