-- The state of a session with stored queries, and one command of it.
use Rattle.std.specs.Prelude.{ℕ, Bool, not, List, [], ◌∷◌, ◌++◌, filter, flat_map, fold, length, nat_le, bytes_eq, Option, Some, None, is_some, Result, Ok, Err, if◌then◌else◌}
use Rattle.std.specs.List.{list_any, find}
use Rattle.std.specs.Option.{option_map_or}
use Rattle.ecs_id.specs.declared.EntityId.{EntityId}
use Rattle.query_model.specs.declared.faults.Fault.{Fault}
use Rattle.query_model.specs.declared.query.Mention.{Mention}
use Rattle.query_model.specs.Query.{Query}
use Rattle.ecs_model.specs.declared.faults.Refusal.{Refusal}
use Rattle.ecs_model.specs.declared.faults.Refusal.TheVariants.{BadName}
use Rattle.ecs_model.specs.steps.Outcomes.{Changed}
use Rattle.ecs_model.specs.Query.{query_of}
use Rattle.ecs_model.specs.Orders.{WorldOrder, command_of}
use Rattle.ecs_model.specs.Text.{is_name}
use Rattle.ecs_model.specs.World.{WorldState, first_world}
use Rattle.ecs_model.specs.steps.Step.{Command, step}
use Rattle.ecs_model.specs.steps.Pins.{with_pins, one_more, unpin}
use Rattle.ecs_model.specs.declared.faults.SessionRefusal.{SessionRefusal}
use Rattle.ecs_model.specs.declared.faults.SessionRefusal.TheVariants.{OfWorld, EventsPending, UnknownQuery, QueryTaken, TooManyStored, Faulty}
use Rattle.ecs_model.specs.Refusal.{first_reason}
use Rattle.ecs_model.specs.declared.watches.StoredKind.{StoredKind}
use Rattle.ecs_model.specs.declared.watches.StoredKind.TheVariants.{Kept}
use Rattle.ecs_model.specs.stored.Watches.{Stored, is_watch, Event, told, watched}

-- the state of a session
pub record SessionState : Type 0 where
  pub world : WorldState
  -- the stored queries, in the order of making
  pub stored : List Stored
  -- the events that wait, if any do: there may be none to deliver
  pub waiting : Option (List Event)

-- a session begins with the first world and no stored query
abbrev pub first_session : SessionState
first_session = record { world = first_world; stored = []; waiting = None }

-- the commands of a session: one of its world, a new stored query by its kind, name and text, and the end of one by its name
pub data SessionOrder : Type 0 where
  InWorld : WorldOrder → SessionOrder
  Store : StoredKind → List ℕ → List ℕ → SessionOrder
  Drop : List ℕ → SessionOrder

-- how many stored queries a session has at most
abbrev pub most_stored : ℕ
most_stored = 1024

-- a refusal, or the new session and the entity born
abbrev pub Answer : Type 0
Answer = Result (SessionState × Option EntityId) SessionRefusal

-- one more stored query mentions these
abbrev pub pinned_by : WorldState → List Mention → WorldState
pinned_by w ms = fold (λ v m. with_pins v one_more (m.entity).index) w ms

-- one less does
abbrev pub unpinned_by : WorldState → List Mention → WorldState
unpinned_by w ms = fold (λ v m. unpin v m.entity) w ms

-- the query that a text asks as one of this kind: its own fault comes before that of the kind
abbrev pub watched_if_read : StoredKind → Result Query Fault → Result Query Fault
watched_if_read kind (Err f) = Err f
watched_if_read kind (Ok q) = watched kind q

module _ (s : SessionState) where
  -- the stored query of a name
  abbrev pub stored_at : List ℕ → Option Stored
  stored_at n = find (λ x. bytes_eq n x.name) s.stored

  -- the events of all stored queries wait, in the order of making, if one of them is a watch
  abbrev pub waiting_after : WorldState → Changed → Option (List Event)
  waiting_after w changed = if list_any is_watch s.stored then Some (flat_map (told s.world w changed) s.stored) else None

  -- what the world answered, of the session
  abbrev pub world_answer : Result (WorldState × Changed) Refusal → Answer
  world_answer (Err r) = Err (OfWorld r)
  world_answer (Ok a) = Ok (record s { world = a.0; waiting = waiting_after a.0 a.1 }, (a.1).born)

  -- a command of the world
  abbrev pub in_world : Result Command Refusal → Answer
  in_world (Err r) = Err (OfWorld r)
  in_world (Ok c) = world_answer (step s.world c)

  -- the reasons against a new stored query but for its text
  abbrev pub store_reasons : List ℕ → List (Bool × SessionRefusal)
  store_reasons n = (not (is_name n), OfWorld BadName) ∷ (is_some (stored_at n), QueryTaken) ∷ (nat_le most_stored (length s.stored), TooManyStored) ∷ []

  -- with a new stored query, which mentions what its text names
  abbrev pub with_stored : StoredKind → List ℕ → Result Query Fault → Answer
  with_stored kind n (Err f) = Err (Faulty f)
  with_stored kind n (Ok q) =
      Ok (record s { world = pinned_by s.world q.mentions; stored = s.stored ++ record { name = n; kind = kind; query = q } ∷ [] }, None)

  -- without a stored query
  abbrev pub without_stored : Stored → SessionState
  without_stored x = record s { world = unpinned_by s.world (x.query).mentions; stored = filter (λ y. not (bytes_eq x.name y.name)) s.stored }

  -- a command while no events wait
  unfoldable pub free_order : SessionOrder → Answer
  free_order (InWorld order) = in_world (command_of s.world order)
  free_order (Store kind n text) =
      option_map_or Err (first_reason (store_reasons n)) (with_stored kind n (watched_if_read kind (query_of s.world text)))
  free_order (Drop n) = option_map_or (λ x. Ok (without_stored x, None)) (stored_at n) (Err UnknownQuery)

  -- the answer to a command: none is carried out while events wait
  unfoldable pub apply : SessionOrder → Answer
  apply order = if is_some s.waiting then Err EventsPending else free_order order

  -- the events that wait, and the session after they were delivered
  abbrev pub events : List Event
  events = option_map_or (λ es. es) s.waiting []

  abbrev pub after_events : SessionState
  after_events = record s { waiting = None }

-- the query of a kept query
abbrev pub if_kept : StoredKind → Query → Result Query SessionRefusal
if_kept Kept q = Ok q
if_kept kind q = Err UnknownQuery

-- the kept query of a name
abbrev pub kept_query : SessionState → List ℕ → Result Query SessionRefusal
kept_query s n = option_map_or (λ x. if_kept x.kind x.query) (stored_at s n) (Err UnknownQuery)
