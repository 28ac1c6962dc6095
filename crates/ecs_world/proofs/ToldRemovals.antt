-- What an accepted `remove` answers is what has changed.
use Rattle.std.proofs.Common.{◌≡◌, None, Ok, sym, ◌∙◌}
use Rattle.std.specs.Prelude.{filter}
use Rattle.std.specs.List.{list_any}
use Rattle.ecs_id.specs.declared.EntityId.{EntityId}
use Rattle.ecs_id.specs.Id.{Id}
use Rattle.ecs_model.specs.steps.Outcomes.{AnswersStep, Changed, counted}
use Rattle.ecs_model.specs.Map.{keys}
use Rattle.ecs_model.specs.Refusal.{first_reason}
use Rattle.ecs_model.specs.World.{WorldState, key_eq}
use Rattle.ecs_model.specs.steps.FactChanges.{removed}
use Rattle.ecs_model.specs.steps.Step.{Remove, effect, reasons, step}
use Rattle.ecs_model.proofs.steps.Differences.{differences_of_remove}
use Rattle.ecs_world.specs.State.{no_change}
use Rattle.ecs_model.proofs.StepAnswers.{answers_accepted}

pub removal_told : (w v : WorldState) (told : Changed) (e : EntityId) (i : Id) → first_reason (reasons w (Remove e i)) ≡ None → v ≡ counted (effect w (Remove e i))
    → told ≡ record no_change { went = filter (λ k. list_any (key_eq k) (removed w e.index i)) (keys w.facts) } → AnswersStep (Ok told) (step w (Remove e i)) w v
removal_told w v told e i none left is = answers_accepted w (Remove e i) told v none left (is ∙ sym (differences_of_remove w e i))
