-- Setting the value of an id for all entities of a table at once, in a session.
use Rattle.std.specs.Prelude.{◌≡◌, ℕ, List, [], ◌∷◌, take, drop, Option, Some, None, is_some, option_map, Ok, if◌then◌else◌}
use Rattle.std.specs.List.{list_any}
use Rattle.ecs_id.specs.declared.EntityId.{EntityId}
use Rattle.ecs_id.specs.declared.TableKey.{TableKey}
use Rattle.ecs_id.specs.Id.{Id}
use Rattle.ecs_model.specs.Bytes.{size_of, values_in}
use Rattle.ecs_model.specs.Schema.{Schema}
use Rattle.ecs_model.specs.World.{type_of_id}
use Rattle.ecs_model.specs.stored.Session.{SessionState, after_events, events}
use Rattle.ecs_model.specs.steps.Step.{SetValue}
use Rattle.table_store.specs.Store.{table_at}
use Rattle.ecs_world.specs.Columns.{column_fault}
use Rattle.watch_events.specs.Hits.{may_tell_set}
use Rattle.ecs_observe.specs.Answers.{carried_out}
use Rattle.ecs_observe.specs.Standing.{Standing, session_of}
use Rattle.ecs_observe.specs.declared.errors.SetColumnError.{SetColumnError}
use Rattle.ecs_observe.specs.declared.errors.SetColumnError.TheVariants.{EventsPending, Watched, OfWorld}

-- one `set` for each of these entities in turn, to the values in the bytes, leads from session s to session t: each is
-- accepted, no stored query is notified of anything, and so no events wait for the next
abbrev pub AreSetIn : Id → Schema → List EntityId → List ℕ → SessionState → SessionState → Type 0
AreSetIn i fs [] bytes s t = t ≡ s
AreSetIn i fs (e ∷ es) bytes s t =
    (u : SessionState) × (carried_out s (SetValue e i (values_in fs (take (size_of fs) bytes))) ≡ Ok (u, None)) × (events u ≡ [])
    × AreSetIn i fs es (drop (size_of fs) bytes) (after_events u) t

-- the same for the entities of the table under a key, by row
abbrev pub IsColumnSetIn : Standing → TableKey → Id → List ℕ → SessionState → Type 0
IsColumnSetIn s k i bytes t =
    (a : _) × (fs : Schema) × (table_at (s.world).tables k ≡ Some a) × (type_of_id (s.world).state i ≡ Some fs)
    × AreSetIn i fs a.entities bytes (session_of s) t

-- why the values aren't set: events wait; a stored query observes that values of this id are set; or the world refuses
-- it
abbrev pub set_column_error : Standing → TableKey → Id → ℕ → Option SetColumnError
set_column_error s k i n =
    if is_some s.waiting then Some EventsPending
    else if list_any (λ h. may_tell_set i h.kind h.query) s.stored then Some Watched
    else option_map OfWorld (column_fault s.world k i n)
