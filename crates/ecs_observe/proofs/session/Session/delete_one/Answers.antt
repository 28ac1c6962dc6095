use Rattle.std.proofs.Common.{subst}
use Rattle.ecs_model.specs.stored.Session.{Answer}
use Rattle.ecs_observe.specs.Answers.{AnswersApply, none_born}
use Rattle.ecs_archetypes.specs.Staying.{stay_same}
use Rattle.table_store.specs.Going.{goes_on_same}
use Rattle.ecs_observe.proofs.session.Session.delete_one.Goals as goal

pub returns-in-Ok-clause-answers : goal.returns-in-Ok-clause-answers
returns-in-Ok-clause-answers g c =
    subst (λ (a : Answer). AnswersApply (none_born c.delete.result) a c.args.self.now c.delete.new.self) c.in-Ok.ensures c.delete.ensures.answers

pub returns-in-Err-clause-goes_on : goal.returns-in-Err-clause-goes_on
returns-in-Err-clause-goes_on g c = goes_on_same c.args.self.now.world.tables

pub returns-in-Err-clause-stay : goal.returns-in-Err-clause-stay
returns-in-Err-clause-stay g c = stay_same _ c.args.self.now.world.tables
