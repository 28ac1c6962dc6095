-- What is held of a stored query, and what it is notified of after a command.
use Rattle.std.specs.Prelude.{◌≡◌, ℕ, ◌+◌, ◌*◌, ◌<◌, ◌≤◌, min, Bool, true, false, not, ◌&&◌, List, [], Option, Some, None, Ok, if◌then◌else◌}
use Rattle.std.specs.List.Sorted.{IsStrictlyIncreasing}
use Rattle.query_cache.specs.Kept as cache
use Rattle.query_model.specs.Local.{is_local}
use Rattle.query_model.specs.Query.{Query}
use Rattle.query_meaning.specs.declared.steps.Step.{Step}
use Rattle.query_meaning.specs.Standing.{IsCurrentIn}
use Rattle.ecs_model.specs.declared.watches.StoredKind.{StoredKind}
use Rattle.ecs_model.specs.declared.watches.StoredKind.TheVariants.{Monitor}
use Rattle.ecs_model.specs.steps.Outcomes.{Changed}
use Rattle.ecs_model.specs.World.{WorldState}
use Rattle.ecs_model.specs.rows.View.{view_of}
use Rattle.ecs_model.specs.stored.Watches.{Event, matching, watched}
use Rattle.watch_touched.specs.Before.{view_before}
use Rattle.watch_touched.specs.Concerned.{is_concerned}
use Rattle.watch_touched.specs.Moving.{finds_moving}
use Rattle.watch_concerns.specs.Since.{told_since}

-- a stored query as it is held. `these`: for a monitor whose query isn't local the entities of its rows as of its last
-- events, else none. `list`: for a kept query the tables that it lists. `steps`: those by which its rows are found.
-- `planned_at`: the serial of the newest table when the steps were planned
pub record Held : Type 0 where
  pub name : List ℕ
  pub kind : StoredKind
  pub query : Query
  pub these : List ℕ
  pub list : Option cache.Kept
  pub steps : List Step
  pub planned_at : ℕ

-- a plan is outgrown if the world has had more than twice as many tables by now as when the plan was made (serials
-- count tables)
abbrev pub IsOutgrown : ℕ → ℕ → Type 0
IsOutgrown planned newest = planned * 2 < newest

-- else it still fits the world
abbrev pub IsFitting : ℕ → ℕ → Type 0
IsFitting planned newest = newest ≤ planned * 2

abbrev pub is_monitor : StoredKind → Bool
is_monitor Monitor = true
is_monitor kind = false

-- whether it is a monitor of a local query: its events follow from the entities that a command touched
abbrev pub is_told_locally : Held → Bool
is_told_locally h = is_monitor h.kind && is_local h.query

-- whether it is a monitor of a query that isn't local: after a command its rows are searched
abbrev pub is_compared : Held → Bool
is_compared h = is_monitor h.kind && not (is_local h.query)

-- whether the command concerns the query of such a monitor
abbrev pub is_searched : Changed → Held → Bool
is_searched changed h = is_compared h && is_concerned h.query changed

-- whether it does, and the candidates can't be found, so that all rows are found anew
abbrev pub is_taken_whole : Changed → Held → Bool
is_taken_whole changed h = is_searched changed h && not (finds_moving h.query changed)

-- the entities of a monitor's rows before a command: for a local query they follow from the changes, else they are held
abbrev pub rows_before : WorldState → Changed → Held → List ℕ
rows_before w changed h = if is_local h.query then matching (view_before w changed) h.query else h.these

-- what a stored query is notified of after these changes
abbrev pub told_to : WorldState → Changed → Held → List Event
told_to w changed h = told_since w changed h.name h.kind h.query (rows_before w changed h)

-- what is held of the rows of a stored query: all entities for a monitor whose query isn't local, else none
abbrev pub rows_of : WorldState → StoredKind → Query → List ℕ
rows_of w Monitor q = if is_local q then [] else matching (view_of w) q
rows_of w kind q = []

-- how often all rows of a monitor were found, once the held rows of a new stored query are: once more for a monitor
-- whose query isn't local. At its greatest number it stays
abbrev pub counted_for : StoredKind → Query → ℕ → ℕ
counted_for kind q n = if is_monitor kind && not (is_local q) then min (n + 1) 18446744073709551615 else n

-- what the held rows become after a command: the entities of all rows now, where the command concerns the query of such
-- a monitor
abbrev pub rows_put : WorldState → Changed → Held → Option (List ℕ)
rows_put w changed h = if is_searched changed h then Some (matching (view_of w) h.query) else None

-- the query is current in the world, and fits its kind
pub record IsHeld (w : WorldState) (h : Held) : Type 0 where
  pub current : IsCurrentIn w h.query
  pub fit : watched h.kind h.query ≡ Ok h.query
  -- the entities of a monitor are in ascending order, each once
  pub ascends : h.kind ≡ Monitor → IsStrictlyIncreasing h.these

-- for a monitor whose query isn't local, the held entities are those of its rows now
abbrev pub IsNow : WorldState → Held → Type 0
IsNow w h = h.kind ≡ Monitor → is_local h.query ≡ false → h.these ≡ matching (view_of w) h.query

-- and here they are those of its rows before the changes
abbrev pub WasNow : WorldState → Changed → Held → Type 0
WasNow w changed h = h.kind ≡ Monitor → is_local h.query ≡ false → h.these ≡ matching (view_before w changed) h.query

-- for a monitor whose query isn't local, these are the entities of its rows now
abbrev pub AreThese : WorldState → StoredKind → Query → List ℕ → Type 0
AreThese w kind q these = kind ≡ Monitor → is_local q ≡ false → these ≡ matching (view_of w) q
