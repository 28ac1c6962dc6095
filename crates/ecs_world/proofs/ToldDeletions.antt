-- What an accepted deletion answers is what has changed.
use Rattle.std.proofs.Common.{◌≡◌, true, None, Ok, is_some, refl, sym, ap, ◌∙◌}
use Rattle.std.specs.Prelude.{filter}
use Rattle.std.specs.Ordering.{nat_cmp}
use Rattle.ecs_id.specs.declared.EntityId.{EntityId}
use Rattle.ecs_model.specs.steps.Outcomes.{AnswersStep, Changed, counted}
use Rattle.ecs_model.specs.Map.{keys, value_at}
use Rattle.ecs_model.specs.Refusal.{first_reason}
use Rattle.ecs_model.specs.World.{WorldState, is_alive}
use Rattle.ecs_model.specs.steps.FactChanges.{deleted, mentions_gone}
use Rattle.ecs_model.specs.steps.Step.{Delete, effect, reasons, step, without_entities}
use Rattle.ecs_model.specs.steps.WellFormed.{IsWellFormed}
use Rattle.ecs_model.proofs.steps.Differences.{differences_of_delete}
use Rattle.ecs_world.specs.Changes.{deaths_of}
use Rattle.ecs_world.specs.State.{no_change}
use Rattle.ecs_model.proofs.StepAnswers.{answers_accepted}
use Rattle.ecs_world.proofs.Deaths.{deaths_told}
use Rattle.ecs_world.proofs.Entities.{generation_of}

pub effect-delete : (w : WorldState) (e : EntityId) → effect w (Delete e) ≡ without_entities w (deleted w e.index)
unfolding effect
effect-delete w e = refl

pub deletion_told : (w v : WorldState) (told : Changed) (e : EntityId) → IsWellFormed w → is_alive w e ≡ true → first_reason (reasons w (Delete e)) ≡ None → v ≡ counted (effect w (Delete e))
    → told ≡ record no_change { died = deaths_of w (keys (deleted w e.index)); went = filter (mentions_gone w (deleted w e.index)) (keys w.facts) }
    → AnswersStep (Ok told) (step w (Delete e)) w v
deletion_told w v told e h alive none left is =
    answers_accepted w (Delete e) told v none left
    (is
    ∙ ap (λ ds. record no_change { died = ds; went = filter (mentions_gone w (deleted w e.index)) (keys w.facts) })
    (deaths_told w e.index h (ap is_some (generation_of (value_at nat_cmp w.live e.index) e.generation alive)))
    ∙ sym (differences_of_delete w e))
