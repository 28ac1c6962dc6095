use Rattle.std.proofs.Common.{refl, ap}
use Rattle.std.specs.Prelude.{Some}
use Rattle.ecs_model.specs.steps.Step.{Fresh}
use Rattle.ecs_observe.specs.Answers.{born}
use Rattle.world_script.specs.Stepping.{StepperState}
use Rattle.world_script.proofs.CommandEvents.{commands, waits_err}
use Rattle.world_script.proofs.stepping.Stepper.fresh.Goals as goal

pub tell_printed-requires-clause-none_wait : goal.tell_printed-requires-clause-none_wait
tell_printed-requires-clause-none_wait g c =
    let none = (c.self.invariant c.if-self.false).none_wait in
    waits_err born (λ e. Some e) (λ x. refl) (λ e. refl) Fresh c.self.inside.interpreter.session c.fresh-answer.new.self none c.fresh-answer.result c.fresh-answer.ensures.answers

pub returns : goal.returns
returns g c =
    let none = (c.self.invariant c.if-self.false).none_wait in
    let told = c.tell_printed.ensures in
    commands born (λ e. Some e) (λ x. refl) (λ e. refl) Fresh c.self.inside.interpreter.session c.fresh-answer.new.self none _ _ _ refl refl (ap (λ n. n.lines) told.summary)
    (ap (λ n. n.refused) told.summary) _ (ap (λ (v : StepperState). v.stepping) c.self.view_is) c.fresh-answer.result c.tell_printed.result c.fresh-answer.ensures.answers told.told
