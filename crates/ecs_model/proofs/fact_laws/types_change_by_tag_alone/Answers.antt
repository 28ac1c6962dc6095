-- Fields come and go with their entities, and PairIsTag is never removed.
use Rattle.ecs_model.proofs.steps.ChangedTypes.{types_change_by_tag}
use Rattle.ecs_model.proofs.fact_laws.types_change_by_tag_alone.Goals as goal

pub returns : goal.returns
returns c = types_change_by_tag
