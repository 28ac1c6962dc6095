-- The built-in entities in tables and with names, as they are settled one after another.
use Rattle.std.specs.Prelude.{◌≡◌, ℕ, ◌==◌, Bool, ◌&&◌, List, [], map, take, Some, unwrap_or, IsTrue}
use Rattle.std.specs.List.{list_all, enumerate_from, range_with_len}
use Rattle.std.specs.Ordering.{nat_cmp}
use Rattle.std.specs.FinMap as finite
use Rattle.ecs_id.specs.declared.EntityId.{EntityId}
use Rattle.ecs_id.specs.Id.{Id, mentioned}
use Rattle.ecs_model.specs.Map.{Map, value_at}
use Rattle.ecs_model.specs.World.{built_in_ids, built_in_names, is_built_in}
use Rattle.name_index.specs.Names.{IsOneToOne, Names}
use Rattle.ecs_table.specs.Archetype.{Cells, Shape, zero_cells}
use Rattle.ecs_archetypes.specs.Holdings.{AreHoldings, HoldAlike, Holdings, first_holdings}
use Rattle.ecs_world.specs.State.{names_of}

-- the ids of a built-in entity, all of them tags
abbrev pub tags_of : ℕ → Shape
tags_of i = map (λ c. (c, 0)) (unwrap_or (value_at nat_cmp built_in_ids i) [])

-- the first n built-in entities
abbrev pub first_live : ℕ → Map ℕ ℕ
first_live n = map (λ i. (i, 0)) (range_with_len 1 n)

-- what the first n built-in entities hold
abbrev pub first_cells : ℕ → Map ℕ Cells
first_cells n = map (λ i. (i, zero_cells (tags_of i))) (range_with_len 1 n)

-- the built-in entities, of which the first n are settled
abbrev pub settled_to : ℕ → Holdings
settled_to n = record first_holdings { cells = first_cells n }

-- whether an id has no data and mentions built-in entities alone
abbrev pub is_first_tag : Id × ℕ → Bool
is_first_tag c = (c.1 == 0) && list_all is_built_in (mentioned c.0)

-- the first n of the built-in entities are settled, with tags alone
pub record IsSettled (h : Holdings) (n : ℕ) : Type 0 where
  pub whole : AreHoldings h
  pub alike : HoldAlike h (settled_to n)
  pub tags : IsTrue (list_all is_first_tag h.known)

-- the first n of the built-in names are those of the first n entities
pub record AreFirstNames (names : Names) (n : ℕ) : Type 0 where
  pub one_to_one : IsOneToOne names
  pub named : (q : List ℕ) (e : EntityId) → finite.get names q ≡ Some e → value_at nat_cmp (first_live n) e.index ≡ Some e.generation
  pub told : names_of names (first_live n) ≡ take n (enumerate_from 1 built_in_names)
