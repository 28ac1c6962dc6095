use Rattle.ecs_model.proofs.Depths.{depths_are_of_longest_chains}
use Rattle.ecs_model.proofs.reach_laws.depths_are_of_longest_chains.Goals as goal

pub returns : goal.returns
returns c = depths_are_of_longest_chains
