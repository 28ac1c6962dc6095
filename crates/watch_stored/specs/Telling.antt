-- What the events of a stored query need, and what it reports.
use Rattle.std.specs.Prelude.{◌≡◌, ℕ, ◌+◌, ◌≤◌, ◌++◌, false, List, Result, OnErr, OnOk, map}
use Rattle.std.specs.String.{string_bytes}
use Rattle.std.specs.List.Sorted.{IsStrictlyIncreasing}
use Rattle.ecs_model.specs.steps.Outcomes.{Changed}
use Rattle.ecs_model.specs.World.{WorldState}
use Rattle.ecs_model.specs.rows.View.{view_of}
use Rattle.ecs_model.specs.stored.Watches.{Event}
use Rattle.ecs_print.specs.Stops.{StopsWithin}
use Rattle.query_local.specs.Touched.{AreTouched, touch_of}
use Rattle.query_local.specs.declared.touched.Touched.{Touched}
use Rattle.watch_concerns.specs.Since.{IsAfter}
use Rattle.watch_touched.specs.Before.{view_before}
use Rattle.watch_stored.specs.Held.{Held, IsHeld, WasNow, is_searched, told_to}
use Rattle.watch_stored.specs.Parts.{held_as}
use Rattle.watch_stored.specs.declared.report.Effect.{Effect}
use Rattle.watch_stored.specs.declared.report.Listener.{Listener}

-- these are the entities that a command touched, by ascending index
pub record AreTouchedBy {A : Type 0} (w : WorldState) (changed : Changed) (touched : List (Touched A)) : Type 0 where
  pub ascend : IsStrictlyIncreasing (map (λ t. t.index) touched)
  pub exactly : AreTouched (map touch_of touched) (view_before w changed) (view_of w)

-- a listener, as it is held
abbrev pub held_by : {A : Type 0} → Listener A → Held
held_by l = held_as (string_bytes l.name.now) l.query.now

-- a command led to this world, and the listener is current and held the rows of before the command
pub record IsListening {A : Type 0} (e : Effect A) (l : Listener A) : Type 0 where
  pub after : IsAfter e.world.now.state e.changes.now
  pub held : IsHeld e.world.now.state (held_by l)
  pub was : WasNow e.world.now.state e.changes.now (held_by l)

-- the events of a stored query are appended; where memory is refused, a prefix of them
pub record TellsListener {A T E : Type 0} (e : Effect A) (l : Listener A) (r : Result T E) (before after : List Event) : Type 0 where
  pub told : OnOk r (after ≡ before ++ told_to e.world.now.state e.changes.now (held_by l))
  pub front : OnErr r (StopsWithin before after (told_to e.world.now.state e.changes.now (held_by l)))

-- finding all rows is counted: at most once, and not where the command doesn't concern the query
pub record CountsWholeRows {A : Type 0} (e : Effect A) (l : Listener A) (before after : ℕ) : Type 0 where
  pub spared : is_searched e.changes.now (held_by l) ≡ false → after ≡ before
  pub grows : before ≤ after
  pub few : after ≤ before + 1
