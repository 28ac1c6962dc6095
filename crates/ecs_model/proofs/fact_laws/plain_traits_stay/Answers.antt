-- A trait comes to no entity that is used or mentioned, none is removed, and no entity that a stored query mentions is deleted.
use Rattle.ecs_model.proofs.steps.LastingTraits.{plain_traits_stay}
use Rattle.ecs_model.proofs.fact_laws.plain_traits_stay.Goals as goal

pub returns : goal.returns
returns c = plain_traits_stay
