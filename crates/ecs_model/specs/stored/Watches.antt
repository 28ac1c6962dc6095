-- Stored queries, and what monitors and event observers are notified of after a command.
use Rattle.std.specs.Prelude.{ℕ, ◌==◌, Bool, true, false, not, ◌&&◌, List, [], ◌∷◌, ◌++◌, map, filter, take, codes, ℤ, Option, Some, None, Result, Ok}
use Rattle.std.specs.List.{list_any}
use Rattle.std.specs.Option.{option_map_or}
use Rattle.ecs_id.specs.declared.EntityId.{EntityId}
use Rattle.ecs_id.specs.Id.{Id}
use Rattle.query_model.specs.declared.faults.Fault.{Fault}
use Rattle.query_model.specs.declared.query.Term.{Term}
use Rattle.query_model.specs.Observers.{monitored, observed}
use Rattle.query_model.specs.Query.{Piece, item, must, Query}
use Rattle.ecs_model.specs.declared.watches.EventKind.{EventKind}
use Rattle.ecs_model.specs.declared.watches.EventKind.TheVariants.{Left, Entered, Added, Removed, Written}
use Rattle.ecs_model.specs.declared.watches.StoredKind.{StoredKind}
use Rattle.ecs_model.specs.declared.watches.StoredKind.TheVariants.{Kept, Monitor, OnAdd, OnRemove, OnSet}
use Rattle.ecs_model.specs.steps.Outcomes.{Changed}
use Rattle.ecs_model.specs.Map.{count_at}
use Rattle.ecs_model.specs.Print.{entity_text, id_text, value_text}
use Rattle.ecs_model.specs.World.{WorldState, Key, value_of}
use Rattle.ecs_model.specs.rows.View.{View, view_of}
use Rattle.ecs_model.specs.rows.Rows.{Row, matches, is_passed_over, rows}

-- a query that a session keeps under a name
pub record Stored : Type 0 where
  pub name : List ℕ
  pub kind : StoredKind
  pub query : Query

-- whether stored queries of a kind are notified of commands: all but kept queries, and these are watches
abbrev pub is_told : StoredKind → Bool
is_told Kept = false
is_told kind = true

abbrev pub is_watch : Stored → Bool
is_watch s = is_told s.kind

-- what a watch is notified of
pub record Event : Type 0 where
  -- the name of the watch that is notified
  pub watch : List ℕ
  pub kind : EventKind
  pub entity : EntityId
  -- the id of a fact, and the value that was set
  pub id : Option Id
  pub value : Option (List ℤ)
  -- the texts by which the entity and the id print
  pub entity_text : List ℕ
  pub id_text : List ℕ

-- whether the first variable of a row stands for the entity
abbrev pub is_this : ℕ → Row → Bool
is_this e r = list_any (λ x. x == e) (take 1 r.bindings)

-- those of some entities that are `$this` of one of the rows
abbrev pub these_of : List Row → List ℕ → List ℕ
these_of rs es = filter (λ e. list_any (is_this e) rs) es

-- the entities that are `$this` of some row, in order
unfoldable pub matching : View → Query → List ℕ
matching w q = these_of (rows w q) w.entities

-- those of the first list that are not in the second
abbrev pub missing_from : List ℕ → List ℕ → List ℕ
missing_from xs ys = filter (λ x. not (list_any (λ y. y == x) ys)) xs

-- the term of an event observer's query
abbrev pub only_term : List Piece → Option Term
only_term (item (must t) ∷ []) = Some t
only_term ps = None

-- whether a fact matches the observer's term, by its id alone: `_` as `*`, and what looks closed as any other
abbrev pub matches_term : Query → Id → Bool
matches_term q i = option_map_or (λ t. matches [] t.component t.target i) (only_term q.pieces) false

-- whether an observer is notified of a fact: it matches, and its entity is not passed over
abbrev pub observes : View → Query → Key → Bool
observes w q k = matches_term q k.1 && not (is_passed_over q (w.ids k.0))

-- the events of a watch with this name, by the names of a world
module _ (watch : List ℕ) (kind : EventKind) (w : WorldState) where
  -- the live entity at an index
  abbrev pub entity_in : ℕ → EntityId
  entity_in i = record { index = i; generation = count_at w.live i }

  -- about an entity
  abbrev pub entity_event : ℕ → Event
  entity_event i =
      record { watch = watch; kind = kind; entity = entity_in i; id = None; value = None; entity_text = entity_text w (entity_in i); id_text = [] }

  -- about a fact, with the value that was set
  abbrev pub fact_event : (Key → Option (List ℤ)) → Key → Event
  fact_event value k =
      record { watch = watch; kind = kind; entity = entity_in k.0; id = Some k.1; value = value k; entity_text = entity_text w (entity_in k.0); id_text = id_text w k.1 }

-- a command, by the worlds before and after it and what it has changed
module _ (before after : WorldState) (changed : Changed) where
  -- a monitor: who has left, by the names before, and then who has entered
  unfoldable pub told_of_rows : List ℕ → List ℕ → List ℕ → List Event
  told_of_rows n old new =
      map (entity_event n Left before) (missing_from old new) ++ map (entity_event n Entered after) (missing_from new old)

  -- a stored query of a name, a kind and a query: facts that went are judged and named as they were before, all others as they are after
  unfoldable pub told_of : List ℕ → StoredKind → Query → List Event
  told_of n Kept q = []
  told_of n Monitor q = told_of_rows n (matching (view_of before) q) (matching (view_of after) q)
  told_of n OnAdd q = map (fact_event n Added after (λ k. None)) (filter (observes (view_of after) q) changed.came)
  told_of n OnRemove q = map (fact_event n Removed before (λ k. None)) (filter (observes (view_of before) q) changed.went)
  told_of n OnSet q = map (fact_event n Written after (λ k. value_of after k.0 k.1)) (filter (observes (view_of after) q) changed.written)

  -- what a stored query is notified of after the command
  abbrev pub told : Stored → List Event
  told s = told_of s.name s.kind s.query

-- a query as one of this kind, or why it can't be one: a watch needs `$this`, and an event observer one term
abbrev pub watched : StoredKind → Query → Result Query Fault
watched Kept q = Ok q
watched Monitor q = monitored q
watched kind q = observed q

abbrev pub event_word : EventKind → List ℕ
event_word Left = codes "leave "
event_word Entered = codes "enter "
event_word Added = codes "add "
event_word Removed = codes "remove "
event_word Written = codes "set "

-- ` ID`, ` ID=v,v` with a value, and nothing where there is no id
abbrev pub event_id_text : Event → List ℕ
event_id_text e = option_map_or (λ i. codes " " ++ e.id_text ++ value_text e.value) e.id []

-- the line of an event: its word, the watch, the entity, and the fact
abbrev pub event_text : Event → List ℕ
event_text e = event_word e.kind ++ e.watch ++ codes " " ++ e.entity_text ++ event_id_text e ++ codes "\n"
