-- What calls leave of the tables: their keys, shapes and rows, and the room in them.
use Rattle.std.specs.Prelude.{◌≡◌, ◌≤◌, ◌+◌, ℕ, Some, if◌then◌else◌}
use Rattle.ecs_id.specs.declared.Place.{Place}
use Rattle.ecs_id.specs.declared.TableKey.{TableKey}
use Rattle.table_store.specs.Going.{TablesGoOn}
use Rattle.table_store.specs.Rows.{row_at}
use Rattle.ecs_id.specs.TableKeys.{table_eq}
use Rattle.table_store.specs.Store.{Shape, Store, room_at, shape_at}

-- tables or room may have come; each table that stood stands on, and each row is as it was
pub record HasGrown (s n : Store) : Type 0 where
  pub goes_on : TablesGoOn s n
  pub shapes : (k : TableKey) (f : Shape) → shape_at s k ≡ Some f → shape_at n k ≡ Some f
  pub room : (k : TableKey) → room_at s k ≤ room_at n k
  pub rows : (p : Place) → row_at n p ≡ row_at s p

-- the same tables stand, and the same serials were given
pub record StandAlike (s n : Store) : Type 0 where
  pub shapes : (k : TableKey) → shape_at n k ≡ shape_at s k
  pub last : n.last ≡ s.last

-- one row in the table under a key, and none in another
abbrev pub one_in : TableKey → TableKey → ℕ
one_in k q = if table_eq q k then 1 else 0

-- no table loses room, but the one under a key loses that of one row
abbrev pub TakesRoom : TableKey → Store → Store → Type 0
TakesRoom k s n = (q : TableKey) → room_at s q ≤ room_at n q + one_in k q
