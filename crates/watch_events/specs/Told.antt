-- The events of a monitor.
use Rattle.std.specs.Prelude.{ℕ, List, ◌++◌, map}
use Rattle.ecs_model.specs.steps.Outcomes.{Changed}
use Rattle.ecs_model.specs.declared.watches.EventKind.TheVariants.{Entered}
use Rattle.ecs_model.specs.World.{WorldState}
use Rattle.ecs_model.specs.stored.Watches.{Event, entity_event}
use Rattle.watch_concerns.specs.Since.{left_event}

-- from the entities that have left its rows, and those that have entered them
abbrev pub told_of_moves : WorldState → Changed → List ℕ → List ℕ → List ℕ → List Event
told_of_moves after changed watch left entered = map (left_event after changed watch) left ++ map (entity_event watch Entered after) entered
