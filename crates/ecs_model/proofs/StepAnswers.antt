-- What a call has to show to answer as a step does.
use Rattle.std.specs.Prelude.{◌≡◌, Some, None, Ok, Err}
use Rattle.std.specs.Option.{option_map_or}
use Rattle.std.proofs.Common.{sym, ap, ◌∙◌}
use Rattle.ecs_model.specs.declared.faults.Refusal.{Refusal}
use Rattle.ecs_model.specs.declared.faults.CommandError.TheVariants.{Refused}
use Rattle.ecs_model.specs.Refusal.{first_reason}
use Rattle.ecs_model.specs.World.{WorldState}
use Rattle.ecs_model.specs.steps.Outcomes.{Changed, counted, differences, AnswersStep}
use Rattle.ecs_model.specs.steps.Step.{Command, IsCommand, reasons, effect, written_by, step}
use Rattle.ecs_model.specs.steps.WellFormed.{IsWellFormed}
use Rattle.ecs_model.proofs.steps.AcceptedCommands.{effect_keeps}

-- what a command changes where no reason is against it
abbrev pub changes_of : WorldState → Command → Changed
changes_of w c = differences w (counted (effect w c)) (written_by c)

module _ (w : WorldState) (c : Command) where
  pub step-accepted : first_reason (reasons w c) ≡ None → step w c ≡ Ok (counted (effect w c), changes_of w c)
  unfolding step
  step-accepted none = ap (λ o. option_map_or Err o (Ok (counted (effect w c), changes_of w c))) none

  pub step-refused : (r : Refusal) → first_reason (reasons w c) ≡ Some r → step w c ≡ Err r
  unfolding step
  step-refused r some = ap (λ o. option_map_or Err o (Ok (counted (effect w c), changes_of w c))) some

  -- an accepted call: it leaves the world of the effect, counted, and answers what has changed
  pub answers_accepted : (changed : Changed) (v : WorldState) → first_reason (reasons w c) ≡ None → v ≡ counted (effect w c) → changed ≡ changes_of w c
      → AnswersStep (Ok changed) (step w c) w v
  answers_accepted changed v none is tells = step-accepted none ∙ (λ k. Ok (sym is k, sym tells k))

  -- a refused call
  pub answers_refused : (r : Refusal) (v : WorldState) → first_reason (reasons w c) ≡ Some r → v ≡ w → AnswersStep (Err (Refused r)) (step w c) w v
  answers_refused r v some is = (step-refused r some, is)

  pub effect_well_formed : IsWellFormed w → IsCommand c → first_reason (reasons w c) ≡ None → IsWellFormed (counted (effect w c))
  effect_well_formed h command none = effect_keeps w c h command none
