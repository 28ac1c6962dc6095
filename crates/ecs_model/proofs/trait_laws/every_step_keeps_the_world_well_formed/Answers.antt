-- By cases of the commands.
use Rattle.ecs_model.proofs.steps.AcceptedCommands.{step_keeps}
use Rattle.ecs_model.proofs.trait_laws.every_step_keeps_the_world_well_formed.Goals as goal

pub returns : goal.returns
returns c = step_keeps
