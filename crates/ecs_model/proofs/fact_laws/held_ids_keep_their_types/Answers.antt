-- Fields come to new entities alone, and PairIsTag to what no pair uses.
use Rattle.ecs_model.proofs.steps.LastingTypes.{held_ids_keep_types}
use Rattle.ecs_model.proofs.fact_laws.held_ids_keep_their_types.Goals as goal

pub returns : goal.returns
returns c = held_ids_keep_types
