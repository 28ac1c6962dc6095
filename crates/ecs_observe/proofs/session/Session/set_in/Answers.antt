use Rattle.std.proofs.Common.{refl, subst}
use Rattle.ecs_model.specs.Orders.{SetIn, command_of}
use Rattle.ecs_model.specs.stored.Session.{Answer}
use Rattle.ecs_model.specs.steps.Step.{SetValue}
use Rattle.ecs_observe.specs.Answers.{AnswersApply, none_born}
use Rattle.ecs_model.specs.References.{seen_id, seen_reference}
use Rattle.ecs_archetypes.specs.Staying.{stay_same}
use Rattle.table_store.specs.Going.{goes_on_same}
use Rattle.ecs_observe.proofs.session.Session.set_in.Goals as goal

pub returns-in-Ok-clause-answers : goal.returns-in-Ok-clause-answers
unfolding command_of
returns-in-Ok-clause-answers g c =
    subst (λ (a : Answer). AnswersApply (none_born c.set.result) a c.args.self.now c.set.new.self) (c.in-Ok.ensures (λ e i. SetValue e i c.args.values.now) (SetIn (seen_reference c.args.entity) (seen_id c.args.id) c.args.values.now) refl) c.set.ensures.answers

pub returns-in-Err-clause-answers : goal.returns-in-Err-clause-answers
unfolding command_of
returns-in-Err-clause-answers g c = (c.in-Err.ensures (λ e i. SetValue e i c.args.values.now) (SetIn (seen_reference c.args.entity) (seen_id c.args.id) c.args.values.now) refl, refl)

pub returns-in-Err-clause-goes_on : goal.returns-in-Err-clause-goes_on
returns-in-Err-clause-goes_on g c = goes_on_same c.args.self.now.world.tables

pub returns-in-Err-clause-stay : goal.returns-in-Err-clause-stay
returns-in-Err-clause-stay g c = stay_same _ c.args.self.now.world.tables
