-- The name of each entity: a list by index of places among the short names, and beside it a map for long names and for further entities of an index.
use Rattle.std.specs.Prelude.{◌≡◌, ◌≢◌, ℕ, ◌==◌, ◌&&◌, ◌<◌, Bool, false, List, Option, None, Some, cond, length, option_map, slice_get, slice_index_or, slice_set, if◌then◌else◌}
use Rattle.std.specs.Option.{option_or}
use Rattle.std.specs.BTreeMap.{get}
use Rattle.std.specs.String.{string_bytes}
use Rattle.ecs_id.specs.declared.EntityId.{EntityId}
use Rattle.ecs_id.specs.contracts.EntityIdOrd.TheImpl as entities
use Rattle.name_index.specs.declared.texts.Texts.{Texts}

-- the entry at a place
abbrev pub entry_at : List (List ℕ × EntityId) → Option ℕ → Option (List ℕ × EntityId)
entry_at entries None = None
entry_at entries (Some at) = slice_get entries at

-- whether an entry is of an entity of the index
abbrev pub is_of : ℕ → Option (List ℕ × EntityId) → Bool
is_of index None = false
is_of index (Some entry) = entry.1.index == index

-- the name in an entry, where that is the entity's
abbrev pub name_for : EntityId → Option (List ℕ × EntityId) → Option (List ℕ)
name_for e None = None
name_for e (Some entry) = if entry.1.index == e.index && entry.1.generation == e.generation then Some entry.0 else None

-- the name that the list by index leads to
abbrev pub first_in : List ℕ → List (List ℕ × EntityId) → EntityId → Option (List ℕ)
first_in places entries e = name_for e (entry_at entries (slice_get places e.index))

-- whether a place is the last one
abbrev pub is_last : ℕ → Option ℕ → Bool
is_last last None = false
is_last last (Some at) = at == last

-- the list, once what the index has at the last place stands at another
abbrev pub moved_to : List ℕ → ℕ → ℕ → ℕ → List ℕ
moved_to places index last at = if is_last last (slice_get places index) then slice_set places index at else places

-- the same of an entry that came to stand there, if one did
abbrev pub moved : List ℕ → Option (List ℕ × EntityId) → ℕ → ℕ → List ℕ
moved places None last at = places
moved places (Some entry) last at = moved_to places entry.1.index last at

-- the list has the place at the index, and nothing else but that place where it had nothing
pub record IsPut (old : List ℕ) (index at : ℕ) (new : List ℕ) : Type 0 where
  pub within : index < length new
  pub here : slice_index_or new index at ≡ at
  pub others : (i : ℕ) → i ≢ index → slice_index_or new i at ≡ slice_index_or old i at

module _ {Y : Type 0} where
  -- the entry whose place the list has
  abbrev pub entry_of : Texts Y → List (List ℕ × EntityId) → ℕ → Option (List ℕ × EntityId)
  entry_of texts entries index = entry_at entries (slice_get texts.places.items index)

  -- the name of the entity, by its place among the short ones
  abbrev pub first_of : Texts Y → List (List ℕ × EntityId) → EntityId → Option (List ℕ)
  first_of texts entries e = first_in texts.places.items entries e

  -- the name that is kept apart from the list by index
  abbrev pub other_of : Texts Y → EntityId → Option (List ℕ)
  other_of texts e = option_map string_bytes (get entities.ghosts.cmp texts.others e)

  -- the name of the entity
  abbrev pub text_of : Texts Y → List (List ℕ × EntityId) → EntityId → Option (List ℕ)
  text_of texts entries e = option_or (first_of texts entries e) (other_of texts e)

  -- both keep the same
  pub record IsSame (old new : Texts Y) : Type 0 where
    pub places : new.places.items ≡ old.places.items
    pub others : (q : EntityId) → other_of new q ≡ other_of old q

  -- the name of the entity is kept, by its place if there is one
  abbrev pub IsKept : Texts Y → Texts Y → EntityId → List ℕ → Option ℕ → Type 0
  IsKept old new e name None = (new.places.items ≡ old.places.items) × ((q : EntityId) → other_of new q ≡ cond (e.index == q.index && e.generation == q.generation) (Some name) (other_of old q))
  IsKept old new e name (Some at) = IsPut old.places.items e.index at new.places.items × ((q : EntityId) → other_of new q ≡ other_of old q)
