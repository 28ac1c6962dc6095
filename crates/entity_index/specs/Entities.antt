-- The entities of an index: which live, how often each index was deleted, and where rows stand.
use Rattle.std.specs.Prelude.{◌≡◌, ◌⊎◌, ℕ, ◌+◌, ◌^◌, ◌≤◌, ◌<◌, ◌==◌, Bool, false, not, ◌&&◌, List, [], map, Option, Some, None, if◌then◌else◌, IsTrue, IfSome}
use Rattle.std.specs.List.{range_with_len}
use Rattle.std.specs.Ordering.{nat_cmp}
use Rattle.ecs_id.specs.declared.EntityId.{EntityId}
use Rattle.ecs_id.specs.declared.Place.{Place}
use Rattle.ecs_model.specs.Map.{Map, IsMap, count_at, has_key, value_at, with_value, without}
use Rattle.ecs_model.specs.World.{first_index, is_built_in, is_free, last_built_in, lives_in, living, living_at, next_among}

-- the value of an index: maps by index
pub record Entities : Type 0 where
  -- the generation of each live entity
  pub live : Map ℕ ℕ
  -- how often an index was deleted, where it was
  pub deletions : Map ℕ ℕ
  -- where the row of an entity stands, where that was written
  pub places : Map ℕ Place
  -- the greatest index that is given out
  pub last : ℕ

-- the built-in entities alone
abbrev pub built_in_entities : ℕ → Entities
built_in_entities last = record { live = map (λ i. (i, 0)) (range_with_len 1 last_built_in); deletions = []; places = []; last = last }

module _ (w : Entities) where
  -- whether the index is that of a live entity
  abbrev pub is_live : ℕ → Bool
  is_live i = has_key nat_cmp w.live i

  -- whether this very entity is alive
  abbrev pub is_alive : EntityId → Bool
  is_alive e = lives_in w.live e

  -- the live entity at an index
  abbrev pub entity_at : ℕ → Option EntityId
  entity_at i = living_at w.live i

  -- the live entities by index
  abbrev pub live_entities : List EntityId
  live_entities = living w.live

  -- where a live entity's row stands
  abbrev pub place_of : EntityId → Option Place
  place_of e = if is_alive e then value_at nat_cmp w.places e.index else None

  -- the next new entity: the smallest free index, and how often it was deleted
  abbrev pub next_entity : Option EntityId
  next_entity = next_among w.live w.deletions w.last

  -- with a new entity
  abbrev pub with_entity : EntityId → Entities
  with_entity e = record w { live = with_value nat_cmp w.live e.index e.generation }

  -- whether `delete` takes this entity away
  abbrev pub is_deletable : EntityId → Bool
  is_deletable e = is_alive e && not (is_built_in e.index)

  -- after the entity at an index was deleted
  abbrev pub without_entity : ℕ → Entities
  without_entity i = record w {
    live = without nat_cmp w.live (λ k. k == i);
    deletions = with_value nat_cmp w.deletions i (count_at w.deletions i + 1);
    places = without nat_cmp w.places (λ k. k == i);
  }

  -- after the place of the entity at an index was written
  abbrev pub with_place : ℕ → Place → Entities
  with_place i place = record w { places = with_value nat_cmp w.places i place }

-- the entity has the smallest free index that is given out, and as its generation how often that index was deleted
pub record IsNext (w : Entities) (e : EntityId) : Type 0 where
  pub given_out : (first_index ≤ e.index) × (e.index ≤ w.last)
  pub free : IsTrue (is_free w.live w.deletions e.index)
  pub smallest : (i : ℕ) → first_index ≤ i → i < e.index → is_free w.live w.deletions i ≡ false
  pub generation : e.generation ≡ count_at w.deletions e.index

-- no index that is given out is free
abbrev pub IsFull : Entities → Type 0
IsFull w = (i : ℕ) → first_index ≤ i → i ≤ w.last → is_free w.live w.deletions i ≡ false

-- what every index has
pub record IsWellFormed (w : Entities) : Type 0 where
  pub live_rise : IsMap nat_cmp w.live
  pub deletions_rise : IsMap nat_cmp w.deletions
  pub places_rise : IsMap nat_cmp w.places
  pub last : (first_index ≤ w.last) × (w.last < 2 ^ 24)
  -- a live entity has an index that is given out, and as its generation how often that index was deleted
  pub given_out : (i : ℕ) → IsTrue (is_live w i) → IsTrue (is_built_in i) ⊎ ((first_index ≤ i) × (i ≤ w.last))
  pub generation : (i : ℕ) → IfSome (value_at nat_cmp w.live i) (λ g. (g ≡ count_at w.deletions i) × (g < 2 ^ 16))
  -- the built-in entities live, and no index that is not given out was deleted
  pub built_in : (i : ℕ) → IsTrue (is_built_in i) → value_at nat_cmp w.live i ≡ Some 0
  pub never_deleted : (i : ℕ) → i < first_index → count_at w.deletions i ≡ 0
  -- an index is deleted once for each generation at most
  pub deleted : (i : ℕ) → count_at w.deletions i ≤ 2 ^ 16
  -- only a live entity has a place
  pub placed : (i : ℕ) → IfSome (value_at nat_cmp w.places i) (λ _. IsTrue (is_live w i))
