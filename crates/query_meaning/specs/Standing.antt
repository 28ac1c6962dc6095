-- Stored queries: what a query that a text asked in some earlier world has for as long as it is current, as statements.
use Rattle.std.specs.Prelude.{◌≡◌, ℕ, ◌<◌, true, List, All, Ok}
use Rattle.ecs_id.specs.declared.EntityId.{EntityId}
use Rattle.ecs_model.specs.steps.Outcomes.{Changed}
use Rattle.ecs_model.specs.Map.{count_at}
use Rattle.ecs_model.specs.Query.{known_of, query_of}
use Rattle.ecs_model.specs.World.{WorldState}
use Rattle.ecs_model.specs.rows.View.{view_of}
use Rattle.ecs_model.specs.steps.Step.{Command, step}
use Rattle.ecs_model.specs.steps.WellFormed.{IsWellFormed}
use Rattle.ecs_model.specs.steps.Pins.{with_pins, unpin}
use Rattle.query_model.specs.Query.{Query, is_current}
use Rattle.query_meaning.specs.Names.{AreNamesLive, GoesUpWithoutCycles, OrdersWithoutCycles}

-- some text asked the query in some world
abbrev pub WasAsked : Query → Type 0
WasAsked q = (w : WorldState) × (text : List ℕ) × (query_of w text ≡ Ok q)

-- it was asked, and what its text names is alive in this world, with the traits that the check relied on as they were
pub record IsCurrentIn (w : WorldState) (q : Query) : Type 0 where
  pub asked : WasAsked q
  pub current : is_current (known_of w) q ≡ true

-- a stored query mentions each entity that the query's text names
abbrev pub IsPinnedIn : WorldState → Query → Type 0
IsPinnedIn w q = All (λ m. 0 < count_at w.pins (m.entity).index) q.mentions

-- a query is current in the world in which its text asks it
abbrev pub AskedQueriesAreCurrent : Type 0
AskedQueriesAreCurrent = (w : WorldState) (text : List ℕ) (q : Query) → query_of w text ≡ Ok q → IsCurrentIn w q

-- a current query names live entities
abbrev pub CurrentQueriesNameTheLiving : Type 0
CurrentQueriesNameTheLiving = (w : WorldState) (q : Query) → IsCurrentIn w q → AreNamesLive (view_of w) q

-- and asks ancestors along relationships that have no cycle
abbrev pub CurrentQueriesGoUpWithoutCycles : Type 0
CurrentQueriesGoUpWithoutCycles = (w : WorldState) (q : Query) → IsWellFormed w → IsCurrentIn w q → GoesUpWithoutCycles (view_of w) q

-- and orders its rows along one that has none
abbrev pub CurrentQueriesOrderWithoutCycles : Type 0
CurrentQueriesOrderWithoutCycles = (w : WorldState) (q : Query) → IsWellFormed w → IsCurrentIn w q → OrdersWithoutCycles (view_of w) q

-- a command changes no count of stored queries
abbrev pub StepsKeepPins : Type 0
StepsKeepPins = (w v : WorldState) (c : Command) (changed : Changed) → step w c ≡ Ok (v, changed) → v.pins ≡ w.pins

-- a current query stays current for as long as stored queries mention what it names
abbrev pub StepsKeepQueriesCurrent : Type 0
StepsKeepQueriesCurrent = (w v : WorldState) (c : Command) (changed : Changed) (q : Query)
    → IsWellFormed w → step w c ≡ Ok (v, changed) → IsPinnedIn w q → IsCurrentIn w q → IsCurrentIn v q

-- whatever is counted of stored queries, a current query stays current
abbrev pub PinsKeepQueriesCurrent : Type 0
PinsKeepQueriesCurrent = (w : WorldState) (q : Query) → IsCurrentIn w q → ((change : ℕ → ℕ) (i : ℕ) → IsCurrentIn (with_pins w change i) q) × ((e : EntityId) → IsCurrentIn (unpin w e) q)

-- and queries see the same
abbrev pub PinsKeepViews : Type 0
PinsKeepViews = (w : WorldState) → ((change : ℕ → ℕ) (i : ℕ) → view_of (with_pins w change i) ≡ view_of w) × ((e : EntityId) → view_of (unpin w e) ≡ view_of w)
