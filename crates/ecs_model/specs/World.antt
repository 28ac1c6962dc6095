-- The state of a world, the first world, and what is read from a world.
use Rattle.std.specs.Prelude.{ℕ, zero, suc, ◌+◌, ◌-◌, ◌==◌, Bool, true, false, not, ◌&&◌, List, [], ◌∷◌, map, flat_map, filter_map, nat_le, nat_lt, ℤ, codes, bytes_eq, Option, Some, None, option_map, if◌then◌else◌}
use Rattle.std.specs.List.{find, enumerate_from}
use Rattle.std.specs.Option.{option_or, option_eq, option_map_or}
use Rattle.std.specs.declared.cmp.Ordering.{Ordering}
use Rattle.std.specs.Ordering.{nat_cmp}
use Rattle.std.specs.Ordering.{on, then_cmp, eq_by_cmp}
use Rattle.ecs_id.specs.declared.EntityId.{EntityId}
use Rattle.ecs_id.specs.Id.{Id, plain, pair, id_cmp}
pub use Rattle.ecs_id.specs.Id.{last_index}
use Rattle.ecs_model.specs.Map.{Map, value_at, has_key, keys, count_at}
use Rattle.ecs_model.specs.Schema.{Schema, zeros}

-- a fact without its value: the entity's index, and the id that it holds
abbrev pub Key : Type 0
Key = ℕ × Id

-- by entity, then by id
unfoldable pub key_cmp : Key → Key → Ordering
key_cmp = then_cmp (on (λ k. k.0) nat_cmp) (on (λ k. k.1) id_cmp)

-- whether two facts are of one entity and one id
abbrev pub key_eq : Key → Key → Bool
key_eq = eq_by_cmp key_cmp

-- the state of a world, by index
pub record WorldState : Type 0 where
  -- the generation of each live entity
  pub live : Map ℕ ℕ
  -- each fact with its value, empty where the id has no type
  pub facts : Map Key (List ℤ)
  pub names : Map ℕ (List ℕ)
  pub schemas : Map ℕ Schema
  -- how often an index was deleted
  pub deletions : Map ℕ ℕ
  -- how many stored queries mention an entity
  pub pins : Map ℕ ℕ
  -- how many commands were accepted
  pub accepted : ℕ

-- the entities that each world begins with, from index 1 on
abbrev pub built_in_names : List (List ℕ)
built_in_names =
    codes "ChildOf" ∷ codes "IsA" ∷ codes "Component" ∷ codes "Prefab" ∷ codes "Disabled" ∷ codes "Exclusive" ∷ codes "Symmetric" ∷ codes "Transitive"
    ∷ codes "Reflexive" ∷ codes "Acyclic" ∷ codes "Traversable" ∷ codes "PairIsTag" ∷ codes "With" ∷ codes "OnDelete" ∷ codes "OnDeleteTarget"
    ∷ codes "Remove" ∷ codes "Delete" ∷ codes "Panic" ∷ codes "OnInstantiate" ∷ codes "Override" ∷ codes "Inherit" ∷ codes "DontInherit" ∷ []

-- their facts
abbrev pub built_in_ids : List (ℕ × List Id)
built_in_ids =
    (1, plain 6 ∷ plain 10 ∷ plain 11 ∷ plain 12 ∷ pair 15 17 ∷ [])
    ∷ (2, plain 8 ∷ plain 9 ∷ plain 10 ∷ plain 11 ∷ plain 12 ∷ [])
    ∷ (8, pair 13 11 ∷ [])
    ∷ (11, pair 13 10 ∷ [])
    ∷ (13, plain 12 ∷ [])
    ∷ (14, plain 6 ∷ plain 12 ∷ [])
    ∷ (15, plain 6 ∷ plain 12 ∷ [])
    ∷ (19, plain 6 ∷ plain 12 ∷ []) ∷ []

-- the tag of components, and the trait that keeps pairs without data
abbrev pub component : ℕ
component = 3

abbrev pub pair_is_tag : ℕ
pair_is_tag = 12

-- the world before any command
unfoldable pub first_world : WorldState
first_world = record {
  live = map (λ e. (e.0, 0)) (enumerate_from 1 built_in_names);
  facts = flat_map (λ row. map (λ i. ((row.0, i), [])) row.1) built_in_ids;
  names = enumerate_from 1 built_in_names;
  schemas = [];
  deletions = [];
  pins = [];
  accepted = 0;
}

-- the last built-in index, and the first that is given out; the last is the greatest that an id can have
abbrev pub last_built_in : ℕ
last_built_in = 22

abbrev pub first_index : ℕ
first_index = 64

-- how many ids an entity holds at most
abbrev pub most_ids : ℕ
most_ids = 64

-- the first number of the n from i on that passes the test
abbrev pub first_passing : (ℕ → Bool) → ℕ → ℕ → Option ℕ
first_passing test zero i = None
first_passing test (suc n) i = elim (test i) [ true ↦ Some i | false ↦ first_passing test n (i + 1) ]

-- of the generation of each live entity
module _ (live : Map ℕ ℕ) where
  -- whether this very entity lives
  abbrev pub lives_in : EntityId → Bool
  lives_in e = option_eq ◌==◌ (value_at nat_cmp live e.index) (Some e.generation)

  -- the entity that lives at an index
  abbrev pub living_at : ℕ → Option EntityId
  living_at i = option_map (λ g. record { index = i; generation = g }) (value_at nat_cmp live i)

  -- all that live, by index
  abbrev pub living : List EntityId
  living = map (λ e. record { index = e.0; generation = e.1 }) live

-- and of how often an index was deleted
module _ (live deletions : Map ℕ ℕ) where
  -- whether an index can be given to a new entity: it is neither live nor deleted 65,536 times
  abbrev pub is_free : ℕ → Bool
  is_free i = not (has_key nat_cmp live i) && nat_lt (count_at deletions i) 65536

  -- the next new entity, where this is the last index that is given out: the smallest free index, and how often it was deleted
  unfoldable pub next_among : ℕ → Option EntityId
  next_among last = option_map (λ i. record { index = i; generation = count_at deletions i }) (first_passing is_free (last - first_index + 1) first_index)

module _ (w : WorldState) where
  -- whether the index is that of a live entity
  abbrev pub is_live : ℕ → Bool
  is_live i = has_key nat_cmp w.live i

  -- whether this very entity is alive
  abbrev pub is_alive : EntityId → Bool
  is_alive e = lives_in w.live e

  -- the live entity at an index
  abbrev pub entity_at : ℕ → Option EntityId
  entity_at i = living_at w.live i

  -- the live entities' indexes, in order
  abbrev pub entities : List ℕ
  entities = keys w.live

  -- whether an entity holds an id
  abbrev pub holds : ℕ → Id → Bool
  holds e i = has_key key_cmp w.facts (e, i)

  -- the value of a fact
  abbrev pub value_of : ℕ → Id → Option (List ℤ)
  value_of e i = value_at key_cmp w.facts (e, i)

  -- the ids of an entity, in order
  abbrev pub ids_of : ℕ → List Id
  ids_of e = filter_map (λ k. if k.0 == e then Some k.1 else None) (keys w.facts)

  -- the entity of a name
  abbrev pub named : List ℕ → Option ℕ
  named n = option_map (λ e. e.0) (find (λ e. bytes_eq n e.1) w.names)

  -- the name of an entity
  abbrev pub name_of : ℕ → Option (List ℕ)
  name_of i = value_at nat_cmp w.names i

  -- the fields of an id's values: those of a component; of a pair those of its relationship or else of its target, and none where the relationship has PairIsTag
  abbrev pub type_of_id : Id → Option Schema
  type_of_id (plain c) = value_at nat_cmp w.schemas c
  type_of_id (pair r t) = if holds r (plain pair_is_tag) then None else option_or (value_at nat_cmp w.schemas r) (value_at nat_cmp w.schemas t)

  -- what a new fact of this id has as its value
  abbrev pub new_value : Id → List ℤ
  new_value i = option_map_or zeros (type_of_id i) []

-- the index is that of a built-in entity
abbrev pub is_built_in : ℕ → Bool
is_built_in i = nat_le 1 i && nat_le i last_built_in
