-- What a stored query is notified of after a command, from the world after it and the changes. Nothing else of the
-- world before is needed, but the entities of a monitor's rows.
use Rattle.std.specs.Prelude.{◌≡◌, ℕ, ◌==◌, Bool, not, ◌&&◌, ◌||◌, List, [], ◌++◌, map, filter, codes, Option, None, Some, Ok}
use Rattle.std.specs.List.{find, list_any}
use Rattle.std.specs.Option.{option_map_or}
use Rattle.ecs_id.specs.declared.EntityId.{EntityId}
use Rattle.ecs_id.specs.Id.{Id, plain, pair}
use Rattle.query_model.specs.Query.{Query}
use Rattle.ecs_model.specs.declared.watches.EventKind.TheVariants.{Left, Entered, Added, Removed, Written}
use Rattle.ecs_model.specs.declared.watches.StoredKind.{StoredKind}
use Rattle.ecs_model.specs.declared.watches.StoredKind.TheVariants.{Kept, Monitor, OnAdd, OnRemove, OnSet}
use Rattle.ecs_model.specs.steps.Outcomes.{Changed}
use Rattle.ecs_model.specs.Map.{count_at}
use Rattle.ecs_model.specs.Print.{handle_text, entity_text, index_text}
use Rattle.ecs_model.specs.World.{WorldState, Key, holds, key_eq, value_of}
use Rattle.ecs_model.specs.rows.Level.{top}
use Rattle.ecs_model.specs.rows.Rows.{level_mentions}
use Rattle.ecs_model.specs.rows.View.{view_of}
use Rattle.ecs_model.specs.stored.Watches.{Event, entity_event, fact_event, matches_term, matching, missing_from, observes}
use Rattle.ecs_model.specs.steps.Step.{Command, step}
use Rattle.ecs_model.specs.steps.WellFormed.{IsWellFormed}
use Rattle.ecs_model.specs.steps.Rules.{prefab, disabled}

-- these are the changes of some command that led to this world
pub record IsAfter (after : WorldState) (changed : Changed) : Type 0 where
  pub before : WorldState
  pub command : Command
  pub kept : IsWellFormed before
  pub stepped : step before command ≡ Ok (after, changed)

-- an entity that was deleted, with the name that it had
abbrev pub Dead : Type 0
Dead = EntityId × Option (List ℕ)

-- its name, or its handle where it had none
abbrev pub dead_text : Dead → List ℕ
dead_text d = option_map_or (λ n. n) d.1 (handle_text d.0)

module _ (after : WorldState) (changed : Changed) where
  -- the live entity at an index
  abbrev pub entity_now : ℕ → EntityId
  entity_now i = record { index = i; generation = count_at after.live i }

  -- the deleted entity at an index
  abbrev pub died_at : ℕ → Option Dead
  died_at i = find (λ d. (d.0).index == i) changed.died

  -- the entity at an index before the command, if one lived there
  abbrev pub entity_before : ℕ → EntityId
  entity_before i = option_map_or (λ d. d.0) (died_at i) (entity_now i)

  -- the text by which it was printed then
  abbrev pub entity_text_before : ℕ → List ℕ
  entity_text_before i = option_map_or dead_text (died_at i) (entity_text after (entity_now i))

  -- the text of an index in an id
  abbrev pub index_text_before : ℕ → List ℕ
  index_text_before i = option_map_or dead_text (died_at i) (index_text after i)

  -- a pair is printed as `(R,T)`
  abbrev pub id_text_before : Id → List ℕ
  id_text_before (plain c) = index_text_before c
  id_text_before (pair r t) = codes "(" ++ index_text_before r ++ codes "," ++ index_text_before t ++ codes ")"

  -- whether an entity held an id before: the fact was removed, or it is held now and wasn't added
  abbrev pub held_before : ℕ → Id → Bool
  held_before e i = list_any (key_eq (e, i)) changed.went || (holds after e i && not (list_any (key_eq (e, i)) changed.came))

  -- whether an entity had the tag before, and the query doesn't mention it
  abbrev pub is_cut_before : Query → ℕ → ℕ → Bool
  is_cut_before q tag e = held_before e (plain tag) && not (level_mentions tag (top q))

  -- whether an observer is notified of a removed fact: the fact matches, and its entity wasn't hidden from the query
  abbrev pub observed_before : Query → Key → Bool
  observed_before q k = matches_term q k.1 && not (is_cut_before q prefab k.0 || is_cut_before q disabled k.0)

  module _ (watch : List ℕ) where
    -- the event of an entity that has left the rows
    abbrev pub left_event : ℕ → Event
    left_event i = record { watch = watch; kind = Left; entity = entity_before i; id = None; value = None; entity_text = entity_text_before i; id_text = [] }

    -- the event of a removed fact
    abbrev pub removed_event : Key → Event
    removed_event k = record { watch = watch; kind = Removed; entity = entity_before k.0; id = Some k.1; value = None; entity_text = entity_text_before k.0; id_text = id_text_before k.1 }

    -- the events of a monitor, from the entities of its rows before and now
    abbrev pub told_of_sets : List ℕ → List ℕ → List Event
    told_of_sets old new = map left_event (missing_from old new) ++ map (entity_event watch Entered after) (missing_from new old)

    -- the events of a stored query of a kind, from the entities of its rows before if it is a monitor
    unfoldable pub told_since : StoredKind → Query → List ℕ → List Event
    told_since Kept q old = []
    told_since Monitor q old = told_of_sets old (matching (view_of after) q)
    told_since OnAdd q old = map (fact_event watch Added after (λ k. None)) (filter (observes (view_of after) q) changed.came)
    told_since OnRemove q old = map removed_event (filter (observed_before q) changed.went)
    told_since OnSet q old = map (fact_event watch Written after (λ k. value_of after k.0 k.1)) (filter (observes (view_of after) q) changed.written)
