-- A world before and after one more command is counted.
use Rattle.std.proofs.Common.{◌≡◌, ◌+◌, refl, sym, ap, subst}
use Rattle.std.specs.Prelude.{None}
use Rattle.ecs_id.specs.Id.{Id, plain, pair}
use Rattle.ecs_model.specs.steps.Outcomes.{counted}
use Rattle.ecs_model.specs.Refusal.{first_reason}
use Rattle.ecs_model.specs.World.{WorldState, type_of_id}
use Rattle.ecs_model.specs.steps.Step.{Command, IsCommand, effect, reasons}
use Rattle.ecs_model.specs.steps.WellFormed.{IsWellFormed}
use Rattle.ecs_world.specs.State.{IsWorld, Parts, parts_of, state_of}
use Rattle.ecs_model.proofs.StepAnswers.{effect_well_formed}

-- no type changes
pub types_counted : (w : WorldState) (i : Id) → type_of_id (counted w) i ≡ type_of_id w i
types_counted w (plain c) = refl
types_counted w (pair r t) = refl

module _ {parts : Parts} (world : IsWorld parts) (w : WorldState) (c : Command) (is : state_of parts ≡ effect w c) (h : IsWellFormed w) (command : IsCommand c)
    (none : first_reason (reasons w c) ≡ None) where
  abbrev after : Parts
  after = parts_of parts.holdings parts.names parts.schemas parts.pins (parts.accepted + 1)

  -- the world of an accepted command, and with it counted
  pub counted_state : state_of after ≡ counted (effect w c)
  counted_state = ap counted is

  sound : IsWellFormed (state_of after)
  sound = subst IsWellFormed (sym counted_state) (effect_well_formed w c h command none)

  pub counted_world : IsWorld after
  counted_world = record { whole = world.whole; sound = sound; settled = world.settled; known = world.known; named = world.named; one_to_one = world.one_to_one; covered = world.covered }
