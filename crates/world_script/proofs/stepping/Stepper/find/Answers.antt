use Rattle.std.proofs.Common.{sym, ◌∙◌, ap, subst}
use Rattle.std.specs.Prelude.{IfSome, IsTrue}
use Rattle.ecs_model.specs.World.{WorldState, is_alive, named}
use Rattle.world_script.specs.Stepping.{StepperState}
use Rattle.world_script.proofs.CommandEvents.{world_of}
use Rattle.world_script.proofs.stepping.Stepper.find.Goals as goal

pub returns-clause-index : goal.returns-clause-index
returns-clause-index g c =
    let is = sym (world_of c.self.inside.interpreter.session) ∙ ap (λ (v : StepperState). ((v.stepping).session).world) c.self.view_is in
    (rw c.world.ensures at c.find.ensures.index) ∙ ap (λ w. named w c.args.name.now) is

pub returns-clause-alive : goal.returns-clause-alive
returns-clause-alive g c =
    let is = sym (world_of c.self.inside.interpreter.session) ∙ ap (λ (v : StepperState). ((v.stepping).session).world) c.self.view_is in
    let P : WorldState → Type 0 = λ w. IfSome c.find.result (λ e. IsTrue (is_alive w e)) in
    subst P is (rw c.world.ensures at c.find.ensures.alive)
