-- The rows of a store by place: what each place holds, before and after a call.
use Rattle.std.specs.Prelude.{◌≡◌, ℕ, ◌-◌, ◌*◌, ◌<◌, ◌==◌, Bool, ◌&&◌, cond, if◌then◌else◌, List, map, length, take, drop, Option, Some, None, option_map, option_and_then, unwrap_or, IfSome}
use Rattle.std.specs.FinMap.{put}
use Rattle.ecs_id.specs.declared.EntityId.{EntityId}
use Rattle.ecs_id.specs.declared.Place.{Place}
use Rattle.ecs_id.specs.declared.TableKey.{TableKey}
use Rattle.ecs_id.specs.Id.{Id, id_cmp}
pub use Rattle.ecs_table.specs.Archetype.{Cells, carried, cells_of, row_of, zero_cells}
use Rattle.ecs_id.specs.TableKeys.{table_eq}
use Rattle.table_store.specs.Store.{Store, IsStore, Shape, shape_at, size_in, table_at}

-- an entity with its cells
abbrev pub Row : Type 0
Row = EntityId × Cells

-- the row at a place
unfoldable pub row_at : Store → Place → Option Row
row_at s p = option_and_then (λ t. row_of t p.row) (table_at s p.table)

-- how many rows the table under a key has
abbrev pub rows_in : Store → TableKey → ℕ
rows_in s k = unwrap_or (option_map (λ t. length t.entities) (table_at s k)) 0

abbrev pub same_place : Place → Place → Bool
same_place p q = table_eq p.table q.table && p.row == q.row

-- the rows with this one at a place
abbrev pub with_row_at : (Place → Option Row) → Place → Row → Place → Option Row
with_row_at rows q v s = cond (same_place s q) (Some v) (rows s)

-- the rows without the one at a place
abbrev pub without_row_at : (Place → Option Row) → Place → Place → Option Row
without_row_at rows p s = cond (same_place s p) None (rows s)

-- the rows after the one at the last place has filled a gap
abbrev pub gap_filled : (Place → Option Row) → Place → Place → Option Row → Place → Option Row
gap_filled rows last p None = rows
gap_filled rows last p (Some v) = with_row_at (without_row_at rows last) p v

-- the place of the last row of a table
abbrev pub last_place : Store → TableKey → Place
last_place s k = record { table = k; row = rows_in s k - 1 }

-- the row that fills the gap which a row leaves: the last one, if that is another
abbrev pub filler : Store → Place → Option Row
filler s p = cond (same_place (last_place s p.table) p) None (row_at s (last_place s p.table))

-- the rows after the row at a place was taken away
abbrev pub removed_rows : Store → Place → Place → Option Row
removed_rows s p = gap_filled (without_row_at (row_at s) p) (last_place s p.table) p (filler s p)

-- the rows after the row at p, which is v, has moved to the place q of a table of shape f
abbrev pub moved_rows : Store → Place → Row → Place → Shape → Place → Option Row
moved_rows s p v q f = gap_filled (with_row_at (without_row_at (row_at s) p) q (v.0, carried f v.1)) (last_place s p.table) p (filler s p)

-- a row with another value of an id
abbrev pub with_cell : Row → Id → List ℕ → Row
with_cell v i bytes = (v.0, put id_cmp i bytes v.1)

-- the rows with other values of an id, of n bytes each, in all rows of one table: those of one row after another
abbrev pub with_column_at : (Place → Option Row) → TableKey → Id → ℕ → List ℕ → Place → Option Row
with_column_at rows k i n bytes p = if table_eq p.table k then option_map (λ v. with_cell v i (take n (drop (p.row * n) bytes))) (rows p) else rows p

-- these are values of an id with data, one for each row of the table under a key
abbrev pub AreValues : Store → TableKey → Id → List ℕ → Type 0
AreValues s k i bytes = (n : ℕ) × (size_in s k i ≡ Some n) × (0 < n) × (length bytes ≡ rows_in s k * n)

-- the shape that cells have
abbrev pub shape_of_cells : Cells → Shape
shape_of_cells cells = map (λ c. (c.0, length c.1)) cells

-- each row has a cell for each id of its table, of its size
abbrev pub HasRows : Store → Type 0
HasRows s = (p : Place) → IfSome (row_at s p) (λ v. shape_at s p.table ≡ Some (shape_of_cells v.1))

-- what each store has, of its tables and of their rows
abbrev pub IsStored : Store → Type 0
IsStored s = IsStore s × HasRows s
