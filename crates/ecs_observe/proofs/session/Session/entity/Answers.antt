use Rattle.std.proofs.Common.{subst}
use Rattle.ecs_model.specs.steps.Step.{Entity}
use Rattle.ecs_observe.proofs.KeptLists.{lists_later}
use Rattle.ecs_observe.proofs.CommandAnswers.{answer_left, pending_now, session_left}
use Rattle.ecs_observe.proofs.CreatedEntities.{entity_made}
use Rattle.ecs_observe.specs.Answers.{born}
use Rattle.ecs_observe.specs.Standing.{Standing}
use Rattle.ecs_observe.specs.Stored.{entries_of}
use Rattle.ecs_archetypes.specs.Staying.{stay_same}
use Rattle.ecs_world.specs.Releases.{NoneGo}
use Rattle.table_store.specs.Going.{goes_on_same, TablesGoOn}
use Rattle.ecs_observe.proofs.session.Session.entity.Goals as goal

pub returns-then-has_events-clause-answers : goal.returns-then-has_events-clause-answers
returns-then-has_events-clause-answers g c = pending_now _ c.args.self.now c.self.view_is c.has_events.result c.has_events.ensures (Entity c.args.name.now) c.if-has_events.true

pub answer_born-requires-clause-born : goal.answer_born-requires-clause-born
answer_born-requires-clause-born g c = entity_made c.self.inside.world.state c.entity-done.new.self.state c.args.name.now c.entity-done.result c.entity-done.ensures.answers

pub invariant_of-self : goal.invariant_of-self
invariant_of-self g c = (
  session_left _ c.args.self.now c.self.view_is c.has_events.result c.has_events.ensures c.self.invariant.0 c.if-has_events.false c.entity-done.new.self (Entity c.args.name.now) c.keeps.ensures c.entity-done.result (born c.answer_born.result) c.answer_born.new.waiting c.entity-done.ensures.answers c.answer_born.ensures.answers,
  lists_later c.self.inside.world.tables c.entity-done.new.self.tables c.entity-done.ensures.goes_on (entries_of c.self.inside.stored) c.self.invariant.1,
  c.self.invariant.2,
)

pub returns-clause-answers : goal.returns-clause-answers
returns-clause-answers g c =
    answer_left _ c.args.self.now c.self.view_is c.has_events.result c.has_events.ensures c.self.invariant.0 c.if-has_events.false c.entity-done.new.self (Entity c.args.name.now) c.keeps.ensures c.entity-done.result (born c.answer_born.result) c.answer_born.new.waiting c.entity-done.ensures.answers c.answer_born.ensures.answers

pub returns-then-has_events-clause-goes_on : goal.returns-then-has_events-clause-goes_on
returns-then-has_events-clause-goes_on g c = goes_on_same c.args.self.now.world.tables

pub returns-then-has_events-clause-stay : goal.returns-then-has_events-clause-stay
returns-then-has_events-clause-stay g c = stay_same _ c.args.self.now.world.tables

pub returns-clause-goes_on : goal.returns-clause-goes_on
returns-clause-goes_on g c = subst (λ (s : Standing). TablesGoOn (s.world).tables c.entity-done.new.self.tables) c.self.view_is c.entity-done.ensures.goes_on

pub returns-clause-stay : goal.returns-clause-stay
returns-clause-stay g c = subst (λ (s : Standing). NoneGo s.world c.entity-done.new.self) c.self.view_is c.entity-done.ensures.stay

pub returns-clause-index : goal.returns-clause-index
returns-clause-index g c = c.answer_born.ensures.index
