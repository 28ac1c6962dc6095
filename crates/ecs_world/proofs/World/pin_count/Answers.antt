use Rattle.std.proofs.Common.{ap, ◌∙◌}
use Rattle.ecs_model.specs.Map.{count_at}
use Rattle.ecs_world.proofs.Standings.{state_is}
use Rattle.ecs_world.proofs.World.pin_count.Goals as goal

pub returns : goal.returns
returns g c = c.count.ensures ∙ ap (λ w. count_at w.pins c.args.index) (state_is c.self.view_is)
