use Rattle.std.proofs.Common.{ap, is_some, sym, ◌∙◌}
use Rattle.ecs_world.proofs.States.{has_told, copied}
use Rattle.ecs_world.proofs.Standings.{state_is}
use Rattle.ecs_world.proofs.World.has.Goals as goal

pub returns : goal.returns
returns g c =
    rw (← state_is c.self.view_is) (has_told c.self.invariant c.bytes.result c.args.index c.args.id c.is_some.result (sym (copied _ c.bytes.result) ∙ ap is_some c.bytes.ensures) c.is_some.ensures)
