-- Each accepted command leaves a well-formed world.
use Rattle.std.specs.Prelude.{◌≡◌, None}
use Rattle.std.proofs.Common.{sym, subst}
use Rattle.ecs_model.specs.steps.Outcomes.{counted}
use Rattle.ecs_model.specs.Refusal.{first_reason}
use Rattle.ecs_model.specs.World.{WorldState}
use Rattle.ecs_model.specs.steps.Step.{Command, Fresh, Entity, Component, Add, SetValue, Remove, Delete, IsCommand, reasons, effect}
use Rattle.ecs_model.specs.steps.WellFormed.{IsWellFormed}
use Rattle.ecs_model.specs.steps.StepLaws.{StepKeeps}
use Rattle.ecs_model.proofs.steps.AcceptedFacts.{keeps_add, keeps_set, keeps_remove}
use Rattle.ecs_model.proofs.steps.DeletedSets.{delete_keeps}
use Rattle.ecs_model.proofs.steps.NewEntities.{fresh_keeps, entity_keeps, component_keeps}
use Rattle.ecs_model.proofs.steps.RefusalNumbers.{accepted_step}

pub effect_keeps : (w : WorldState) (c : Command) → IsWellFormed w → IsCommand c → first_reason (reasons w c) ≡ None → IsWellFormed (counted (effect w c))
effect_keeps w Fresh h ok r = fresh_keeps w h r
effect_keeps w (Entity n) h ok r = entity_keeps w n h r
effect_keeps w (Component n s) h ok r = component_keeps w n s h ok r
effect_keeps w (Add e i) h ok r = keeps_add w e i h r
effect_keeps w (SetValue e i vs) h ok r = keeps_set w e i vs h r
effect_keeps w (Remove e i) h ok r = keeps_remove w e i h r
effect_keeps w (Delete e) h ok r = delete_keeps w e h r

pub step_keeps : StepKeeps
step_keeps w v c changed h ok e = let done = accepted_step w v c changed e in subst IsWellFormed (sym done.1) (effect_keeps w c h ok done.0)
