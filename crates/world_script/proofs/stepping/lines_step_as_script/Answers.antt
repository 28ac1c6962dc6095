use Rattle.world_script.proofs.Steps.{lines_step}
use Rattle.world_script.proofs.stepping.lines_step_as_script.Goals as goal

pub returns : goal.returns
returns c = lines_step
