-- By cases of the pair that comes one way, or both ways.
use Rattle.ecs_model.proofs.steps.Cycles.{added_pairs_close}
use Rattle.ecs_model.proofs.trait_laws.added_pairs_close_cycles.Goals as goal

pub returns : goal.returns
returns c = added_pairs_close
