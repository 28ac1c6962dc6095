use Rattle.std.proofs.Common.{refl, sym, ap, ◌∙◌}
use Rattle.ecs_model.specs.declared.faults.Refusal.TheVariants.{Dead, BuiltIn}
use Rattle.ecs_model.specs.steps.Outcomes.{AnswersStep}
use Rattle.ecs_model.specs.World.{is_alive}
use Rattle.ecs_model.specs.steps.Step.{Delete, step}
use Rattle.ecs_model.proofs.StepAnswers.{answers_refused}
use Rattle.ecs_world.specs.Releases.{OnlyForgottenGo}
use Rattle.table_store.specs.Going.{TablesGoOn}
use Rattle.ecs_world.proofs.FirstReasons.{delete_of_built_in, delete_of_dead}
use Rattle.ecs_world.proofs.Standings.{seen_as, state_is}
use Rattle.ecs_world.proofs.World.delete.Goals as goal

pub returns-then-not-is_alive-clause-answers : goal.returns-then-not-is_alive-clause-answers
returns-then-not-is_alive-clause-answers g c =
    answers_refused c.args.self.now.state (Delete c.args.entity) Dead c.args.self.now.state (delete_of_dead c.args.self.now.state c.args.entity (sym c.is_alive.ensures ∙ c.if-not-is_alive.true)) refl

pub returns-then-is_built_in-clause-answers : goal.returns-then-is_built_in-clause-answers
returns-then-is_built_in-clause-answers g c =
    let alive = sym c.is_alive.ensures ∙ c.if-not-is_alive.false in
    answers_refused c.args.self.now.state (Delete c.args.entity) BuiltIn c.args.self.now.state (delete_of_built_in c.args.self.now.state c.args.entity alive (sym c.is_built_in.ensures ∙ c.if-is_built_in.true)) refl

pub delete_with-changes-requires-clause-alive : goal.delete_with-changes-requires-clause-alive
delete_with-changes-requires-clause-alive g c = ap (λ u. is_alive u c.args.entity) (state_is c.self.view_is) ∙ sym c.is_alive.ensures ∙ c.if-not-is_alive.false

pub delete_with-changes-requires-clause-own : goal.delete_with-changes-requires-clause-own
delete_with-changes-requires-clause-own g c = sym c.is_built_in.ensures ∙ c.if-is_built_in.false

pub returns-clause-answers : goal.returns-clause-answers
returns-clause-answers g c = seen_as (λ s t. AnswersStep c.delete_with-changes.result (step s.state (Delete c.args.entity)) s.state t.state) c.self.view_is c.self-2.view_is c.delete_with-changes.ensures.answers

pub returns-clause-goes_on : goal.returns-clause-goes_on
returns-clause-goes_on g c = seen_as (λ s t. TablesGoOn s.tables t.tables) c.self.view_is c.self-2.view_is c.delete_with-changes.ensures.goes_on

pub returns-clause-stay : goal.returns-clause-stay
returns-clause-stay g c = seen_as OnlyForgottenGo c.self.view_is c.self-2.view_is c.delete_with-changes.ensures.stay
