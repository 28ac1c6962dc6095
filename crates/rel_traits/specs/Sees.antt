-- The worlds that a graph shows.
use Rattle.std.specs.Prelude.{◌≡◌, ℕ, Bool, List}
use Rattle.ecs_id.specs.Id.{Id}
use Rattle.ecs_model.specs.steps.Outcomes.{is_spent}
use Rattle.ecs_model.specs.Map.{Map}
use Rattle.ecs_model.specs.World.{WorldState, entities, ids_of}
use Rattle.ecs_model.specs.steps.WellFormed.{IsWellFormed}

-- a well-formed world whose live entities are these, each with these ids
pub record Sees (w : WorldState) (live : List ℕ) (ids : ℕ → List Id) : Type 0 where
  pub sound : IsWellFormed w
  pub live_are : entities w ≡ live
  pub ids_are : (e : ℕ) → ids_of w e ≡ ids e

-- stored queries mention its entities as often as these counts say, and no further command is counted where it is spent
pub record HasCounts (w : WorldState) (pins : Map ℕ ℕ) (spent : Bool) : Type 0 where
  pub pins_are : w.pins ≡ pins
  pub spent_is : is_spent w ≡ spent
