-- What a contract sees of a list of entities: they themselves, and how many there are places for.
use Rattle.std.specs.Prelude.{ℕ, List, [], vec_capacity}
use Rattle.ecs_id.specs.declared.EntityId.{EntityId}
use Rattle.ecs_table.specs.declared.entity_list.Rows.{Rows}
use Rattle.ecs_table.specs.declared.entity_list.Rows.TheVariants.{Empty, One, More}

pub record Entities : Type 0 where
  pub items : List EntityId
  pub capacity : ℕ

-- the entities of a list in each of its forms
abbrev pub entities_of : {A : Type 0} → Rows A → List EntityId
entities_of Empty = []
entities_of (One only) = only
entities_of (More entities) = entities.items

-- how many it has places for in each of its forms
abbrev pub capacity_of : {A : Type 0} → Rows A → ℕ
capacity_of Empty = 1
capacity_of (One only) = 1
capacity_of (More entities) = vec_capacity entities
