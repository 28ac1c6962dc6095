use Rattle.ecs_model.proofs.ShortLines.{lines_unfold}
use Rattle.ecs_model.proofs.reach_laws.lines_unfold.Goals as goal

pub returns : goal.returns
returns c = lines_unfold
