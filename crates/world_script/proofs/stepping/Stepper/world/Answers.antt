use Rattle.std.proofs.Common.{sym, ◌∙◌, ap}
use Rattle.ecs_model.specs.World.{WorldState}
use Rattle.ecs_world.specs.Standing.{Standing}
use Rattle.world_script.specs.Stepping.{standing_of}
use Rattle.world_script.proofs.CommandEvents.{world_of}
use Rattle.world_script.proofs.stepping.Stepper.world.Goals as goal

pub returns : goal.returns
returns g c =
    let s = c.self.inside.interpreter.session in
    let of : WorldState → Standing = λ w. record { state = w; tables = (s.world).tables } in
    c.world.ensures ∙ ap of (sym (world_of s)) ∙ ap standing_of c.self.view_is
