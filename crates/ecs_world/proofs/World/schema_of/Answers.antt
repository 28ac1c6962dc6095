use Rattle.std.proofs.Common.{ap, ◌∙◌}
use Rattle.std.specs.Ordering.{nat_cmp}
use Rattle.ecs_model.specs.Map.{value_at}
use Rattle.ecs_world.proofs.Standings.{state_is}
use Rattle.ecs_world.proofs.World.schema_of.Goals as goal

pub returns : goal.returns
returns g c = c.get.ensures.value ∙ ap (λ w. value_at nat_cmp w.schemas c.args.component) (state_is c.self.view_is)
