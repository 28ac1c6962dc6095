-- No fact passes the test, since a mirror is held with its fact alone.
use Rattle.ecs_model.proofs.steps.IdleRemovals.{removes_held_alone}
use Rattle.ecs_model.proofs.trait_laws.removing_what_is_not_held_takes_nothing.Goals as goal

pub returns : goal.returns
returns c = removes_held_alone
