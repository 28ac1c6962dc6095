use Rattle.std.proofs.Common.{subst}
use Rattle.ecs_model.specs.steps.Step.{Fresh}
use Rattle.ecs_observe.proofs.KeptLists.{lists_later}
use Rattle.ecs_observe.proofs.CommandAnswers.{answer_left, pending_now, session_left}
use Rattle.ecs_observe.proofs.CreatedEntities.{fresh_made}
use Rattle.ecs_observe.specs.Answers.{born}
use Rattle.ecs_observe.specs.Standing.{Standing}
use Rattle.ecs_observe.specs.Stored.{entries_of}
use Rattle.ecs_archetypes.specs.Staying.{stay_same}
use Rattle.ecs_world.specs.Releases.{NoneGo}
use Rattle.table_store.specs.Going.{goes_on_same, TablesGoOn}
use Rattle.ecs_observe.proofs.session.Session.fresh.Goals as goal

pub returns-then-has_events-clause-answers : goal.returns-then-has_events-clause-answers
returns-then-has_events-clause-answers g c = pending_now _ c.args.self.now c.self.view_is c.has_events.result c.has_events.ensures Fresh c.if-has_events.true

pub answer_born-requires-clause-born : goal.answer_born-requires-clause-born
answer_born-requires-clause-born g c = fresh_made c.self.inside.world.state c.fresh-done.new.self.state c.fresh-done.result c.fresh-done.ensures.answers

pub invariant_of-self : goal.invariant_of-self
invariant_of-self g c = (
  session_left _ c.args.self.now c.self.view_is c.has_events.result c.has_events.ensures c.self.invariant.0 c.if-has_events.false c.fresh-done.new.self Fresh c.keeps.ensures c.fresh-done.result (born c.answer_born.result) c.answer_born.new.waiting c.fresh-done.ensures.answers c.answer_born.ensures.answers,
  lists_later c.self.inside.world.tables c.fresh-done.new.self.tables c.fresh-done.ensures.goes_on (entries_of c.self.inside.stored) c.self.invariant.1,
  c.self.invariant.2,
)

pub returns-clause-answers : goal.returns-clause-answers
returns-clause-answers g c =
    answer_left _ c.args.self.now c.self.view_is c.has_events.result c.has_events.ensures c.self.invariant.0 c.if-has_events.false c.fresh-done.new.self Fresh c.keeps.ensures c.fresh-done.result (born c.answer_born.result) c.answer_born.new.waiting c.fresh-done.ensures.answers c.answer_born.ensures.answers

pub returns-then-has_events-clause-goes_on : goal.returns-then-has_events-clause-goes_on
returns-then-has_events-clause-goes_on g c = goes_on_same c.args.self.now.world.tables

pub returns-then-has_events-clause-stay : goal.returns-then-has_events-clause-stay
returns-then-has_events-clause-stay g c = stay_same _ c.args.self.now.world.tables

pub returns-clause-goes_on : goal.returns-clause-goes_on
returns-clause-goes_on g c = subst (λ (s : Standing). TablesGoOn (s.world).tables c.fresh-done.new.self.tables) c.self.view_is c.fresh-done.ensures.goes_on

pub returns-clause-stay : goal.returns-clause-stay
returns-clause-stay g c = subst (λ (s : Standing). NoneGo s.world c.fresh-done.new.self) c.self.view_is c.fresh-done.ensures.stay

pub returns-clause-index : goal.returns-clause-index
returns-clause-index g c = c.answer_born.ensures.index
