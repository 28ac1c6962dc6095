-- Which entities live, and what each of them holds: ids with the bytes of their values.
use Rattle.std.specs.Prelude.{◌≡◌, ℕ, ◌==◌, ◌+◌, Bool, not, ◌&&◌, ◌||◌, List, [], ◌∷◌, map, take, drop, length, Option, is_some, unwrap_or, IsTrue, IfSome}
use Rattle.std.specs.List.{list_all, range_with_len}
use Rattle.std.specs.Ordering.{nat_cmp}
use Rattle.ecs_id.specs.declared.EntityId.{EntityId}
use Rattle.ecs_id.specs.Id.{Id, id_cmp, id_eq}
use Rattle.ecs_model.specs.Map.{Map, IsMap, count_at, has_key, value_at, with_value, without}
use Rattle.ecs_model.specs.World.{last_built_in, last_index, lives_in, living, living_at, next_among}
pub use Rattle.ecs_table.specs.Archetype.{Cells}
use Rattle.ecs_table.specs.Archetype.{Shape}

-- the entities, and what they hold
pub record Holdings : Type 0 where
  -- the generation of each live entity
  pub live : Map ℕ ℕ
  -- how often an index was deleted
  pub deletions : Map ℕ ℕ
  -- what each settled entity holds
  pub cells : Map ℕ Cells
  -- the ids of all tables, each with the size of its values there
  pub known : Shape

-- whether an id has this size wherever it is known
abbrev pub agrees : Shape → Id → ℕ → Bool
agrees known i n = list_all (λ c. not (id_eq c.0 i) || c.1 == n) known

-- the sizes that cells have
abbrev pub sizes_of : Cells → Shape
sizes_of cells = map (λ c. (c.0, length c.1)) cells

module _ (h : Holdings) where
  -- whether this very entity is alive
  abbrev pub lives : EntityId → Bool
  lives e = lives_in h.live e

  -- what the entity at an index holds, if it is settled
  abbrev pub cells_at : ℕ → Option Cells
  cells_at i = value_at nat_cmp h.cells i

  -- whether an entity is alive and stands in a table
  abbrev pub is_settled : EntityId → Bool
  is_settled e = lives e && is_some (cells_at e.index)

  -- the bytes of an id's value
  abbrev pub bytes_at : ℕ → Id → Option (List ℕ)
  bytes_at e i = value_at id_cmp (unwrap_or (cells_at e) []) i

  -- whether the entity at an index holds an id
  abbrev pub holds_id : ℕ → Id → Bool
  holds_id e i = is_some (bytes_at e i)

  -- what the entity at an index holds, nothing if it isn't settled
  abbrev pub held_at : ℕ → Cells
  held_at i = unwrap_or (cells_at i) []

  -- the live entity at an index
  abbrev pub entity_at : ℕ → Option EntityId
  entity_at i = living_at h.live i

  -- the live entities by index
  abbrev pub live_entities : List EntityId
  live_entities = living h.live

  -- the entity that the next birth makes
  abbrev pub upcoming : Option EntityId
  upcoming = next_among h.live h.deletions last_index

  -- with a new entity
  abbrev pub with_entity : EntityId → Holdings
  with_entity e = record h { live = with_value nat_cmp h.live e.index e.generation }

  -- with these cells of the entity at an index
  abbrev pub with_cells : ℕ → Cells → Holdings
  with_cells i cells = record h { cells = with_value nat_cmp h.cells i cells }

  -- without the entity at an index, which was deleted once more
  abbrev pub without_entity : ℕ → Holdings
  without_entity i = record h {
    live = without nat_cmp h.live (λ k. k == i);
    deletions = with_value nat_cmp h.deletions i (count_at h.deletions i + 1);
    cells = without nat_cmp h.cells (λ k. k == i);
  }

-- each of the entities in turn has another value of an id: the next n of these bytes
abbrev pub with_each_written : Id → ℕ → List EntityId → List ℕ → Holdings → Holdings
with_each_written i n [] bytes h = h
with_each_written i n (e ∷ es) bytes h = with_each_written i n es (drop n bytes) (with_cells h e.index (with_value id_cmp (held_at h e.index) i (take n bytes)))

-- the built-in entities, none of them settled
abbrev pub first_holdings : Holdings
first_holdings = record { live = map (λ i. (i, 0)) (range_with_len 1 last_built_in); deletions = []; cells = []; known = [] }

-- the same entities hold the same, in whatever tables
pub record HoldAlike (g h : Holdings) : Type 0 where
  pub live : g.live ≡ h.live
  pub deletions : g.deletions ≡ h.deletions
  pub cells : g.cells ≡ h.cells

-- every size that passes this test at first passes it at the end, if these pass it
abbrev pub KeepsSizes : Shape → Shape → Shape → Type 0
KeepsSizes old added new = (test : Id × ℕ → Bool) → IsTrue (list_all test old) → IsTrue (list_all test added) → IsTrue (list_all test new)

-- what holdings have
pub record AreHoldings (h : Holdings) : Type 0 where
  pub live : IsMap nat_cmp h.live
  pub deletions : IsMap nat_cmp h.deletions
  pub cells : IsMap nat_cmp h.cells
  -- the ids of an entity strictly rise, and each has its size
  pub each : (e : ℕ) → IfSome (cells_at h e) (λ c. IsMap id_cmp c × IsTrue (list_all (λ s. agrees h.known s.0 s.1) (sizes_of c)))
  -- each id that is held is known with the size of its value
  pub sized : (e : ℕ) → IfSome (cells_at h e) (λ c. (test : Id × ℕ → Bool) → IsTrue (list_all test h.known) → IsTrue (list_all test (sizes_of c)))
  -- only a live entity is settled
  pub settled : (e : ℕ) → IfSome (cells_at h e) (λ _. IsTrue (has_key nat_cmp h.live e))
