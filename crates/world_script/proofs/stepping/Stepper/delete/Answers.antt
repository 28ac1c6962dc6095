use Rattle.std.proofs.Common.{refl, ap}
use Rattle.std.specs.Prelude.{None}
use Rattle.ecs_model.specs.steps.Step.{Delete}
use Rattle.ecs_observe.specs.Answers.{none_born}
use Rattle.world_script.specs.Stepping.{StepperState}
use Rattle.world_script.proofs.CommandEvents.{commands, waits_err}
use Rattle.world_script.proofs.stepping.Stepper.delete.Goals as goal

pub tell_printed-requires-clause-none_wait : goal.tell_printed-requires-clause-none_wait
tell_printed-requires-clause-none_wait g c =
    let none = (c.self.invariant c.if-self.false).none_wait in
    waits_err none_born (λ _. None) (λ x. refl) (λ e. refl) (Delete c.args.entity) c.self.inside.interpreter.session c.delete-answer.new.self none c.delete-answer.result c.delete-answer.ensures.answers

pub returns : goal.returns
returns g c =
    let none = (c.self.invariant c.if-self.false).none_wait in
    let told = c.tell_printed.ensures in
    commands none_born (λ _. None) (λ x. refl) (λ e. refl) (Delete c.args.entity) c.self.inside.interpreter.session c.delete-answer.new.self none _ _ _ refl refl (ap (λ n. n.lines) told.summary)
    (ap (λ n. n.refused) told.summary) _ (ap (λ (v : StepperState). v.stepping) c.self.view_is) c.delete-answer.result c.tell_printed.result c.delete-answer.ensures.answers told.told
