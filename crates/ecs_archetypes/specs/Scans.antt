-- What a scan of tables finds.
use Rattle.std.specs.Prelude.{◌≡◌, List, Some, Contains, IsTrue}
use Rattle.std.specs.List.{list_any}
use Rattle.ecs_id.specs.declared.EntityId.{EntityId}
use Rattle.ecs_id.specs.declared.Place.{Place}
use Rattle.ecs_id.specs.declared.TableKey.{TableKey}
use Rattle.ecs_id.specs.Id.{Id}
use Rattle.ecs_model.specs.Map.{keys}
use Rattle.id_pattern.specs.declared.Pattern.{Pattern}
use Rattle.id_pattern.specs.Patterns.{matches}
use Rattle.ecs_archetypes.specs.Holdings.{cells_at, holds_id, lives}
use Rattle.ecs_archetypes.specs.Housing.{Housing, holdings_of}
use Rattle.entity_index.specs.Entities.{place_of}
use Rattle.table_store.specs.Going.{TablesGoOn}
use Rattle.table_store.specs.Rows.{Row, row_at}
use Rattle.table_store.specs.Store.{Store, ids_at, table_at}

-- a table stands under the key, with an id that the pattern matches
abbrev pub HasMatch : Store → Pattern → TableKey → Type 0
HasMatch s pattern k = (ids : List Id) × (ids_at s k ≡ Some ids) × IsTrue (list_any (matches pattern) ids)

-- each entity that holds an id that the pattern matches stands in one of the tables
abbrev pub HaveHolders : Housing → Pattern → List TableKey → Type 0
HaveHolders h pattern tables = (e : EntityId) (i : Id) → IsTrue (lives (holdings_of h) e) → IsTrue (holds_id (holdings_of h) e.index i) → IsTrue (matches pattern i)
    → (p : Place) × (place_of h.entities e ≡ Some p) × Contains tables p.table

-- the row at each place is of the entity that stands there: it holds exactly the ids of the table, with the values of the row
pub record IsRowOf (h : Housing) (p : Place) (v : Row) : Type 0 where
  pub place : place_of h.entities v.0 ≡ Some p
  pub cells : cells_at (holdings_of h) (v.0).index ≡ Some v.1
  pub ids : ids_at h.tables p.table ≡ Some (keys v.1)

abbrev pub HaveRows : Housing → Type 0
HaveRows h = (p : Place) (v : Row) → row_at h.tables p ≡ Some v → IsRowOf h p v

-- the tables that the pattern doesn't match stand as they stood, and no serial is given
pub record StandApart (pattern : Pattern) (s n : Store) : Type 0 where
  pub others : (k : TableKey) → (HasMatch s pattern k → ⊥) → table_at n k ≡ table_at s k
  pub goes_on : TablesGoOn s n
  pub last : n.last ≡ s.last
