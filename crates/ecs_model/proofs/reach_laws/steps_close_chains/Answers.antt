use Rattle.ecs_model.proofs.ClosedChains.{steps_close_chains}
use Rattle.ecs_model.proofs.reach_laws.steps_close_chains.Goals as goal

pub returns : goal.returns
returns c = steps_close_chains
