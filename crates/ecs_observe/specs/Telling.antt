-- What the events of a command need, and what they leave.
use Rattle.std.specs.Prelude.{◌≡◌, ℕ, ◌+◌, ◌<◌, ◌≤◌, Bool, false, List, [], ◌++◌, All, flat_map, length, map, min, slice_get}
use Rattle.std.specs.List.{count_by, list_any}
use Rattle.std.specs.List.Sorted.{IsStrictlyIncreasing}
use Rattle.std.specs.Option.{option_map_or}
use Rattle.std.specs.declared.string.String.{String}
use Rattle.ecs_model.specs.steps.Outcomes.{Changed}
use Rattle.ecs_observe.specs.Parts.{ArePlaced, held_of}
use Rattle.ecs_observe.specs.Stored.{AreLedTo}
use Rattle.watch_concerns.specs.Since.{IsAfter}
use Rattle.watch_stored.specs.Held.{IsHeld, WasNow, is_searched, is_taken_whole, is_told_locally, rows_put, told_to}
use Rattle.watch_stored.specs.declared.report.Effect.{Effect}
use Rattle.watch_stored.specs.declared.report.Report.{Report}
use Rattle.watch_stored.specs.declared.stored.StoredQuery.{StoredQuery}

-- whether the stored query at a place is a monitor whose events follow from the entities that a command touched
abbrev pub is_locally_at : {A : Type 0} → List (String A × StoredQuery A) → ℕ → Bool
is_locally_at es i = option_map_or (λ e. is_told_locally (held_of e)) (slice_get es i) false

-- whether one at one of these places is
abbrev pub any_locally_at : {A : Type 0} → List (String A × StoredQuery A) → List ℕ → Bool
any_locally_at es places = list_any (is_locally_at es) places

-- a command led to this world; stored queries are current and hold the rows of before it; the report has no rows yet
pub record AreListening {A : Type 0} (e : Effect A) (es : List (String A × StoredQuery A)) (report : Report A) : Type 0 where
  pub after : IsAfter e.world.now.state e.changes.now
  pub held : All (IsHeld e.world.now.state) (map held_of es)
  pub was : All (WasNow e.world.now.state e.changes.now) (map held_of es)
  pub none : report.rows.items ≡ []

-- these are places of stored queries in ascending order, among them each one that the changes may concern
pub record AreAllLedTo {A : Type 0} (changed : Changed) (es : List (String A × StoredQuery A)) (places : List ℕ) : Type 0 where
  pub ascend : IsStrictlyIncreasing places
  pub within : All (λ i. i < length es) places
  pub led : AreLedTo changed es places

-- the report has what all stored queries report of a command. Finding all rows of a monitor is counted: at most once
-- for each whose query the command concerns, and once for each whose candidates can't be found
pub record TellsAll {A : Type 0} (e : Effect A) (es : List (String A × StoredQuery A)) (before after : Report A) : Type 0 where
  pub rows : ArePlaced (rows_put e.world.now.state e.changes.now) after.rows.items es
  pub told : after.events.items ≡ before.events.items ++ flat_map (told_to e.world.now.state e.changes.now) (map held_of es)
  pub spared : list_any (is_searched e.changes.now) (map held_of es) ≡ false → after.searches.compared ≡ before.searches.compared
  pub grows : before.searches.compared ≤ after.searches.compared
  pub few : after.searches.compared ≤ before.searches.compared + count_by (is_searched e.changes.now) (map held_of es)
  pub taken : min (before.searches.compared + count_by (is_taken_whole e.changes.now) (map held_of es)) 18446744073709551615 ≤ after.searches.compared
