-- What a contract sees of a `Table`: its ids, and for each one with data the value of each row.
use Rattle.std.specs.Prelude.{◌≡◌, ℕ, ◌+◌, ◌-◌, ◌<◌, ◌≤◌, List, [], ◌∷◌, ◌++◌, map, length, replicate, nat_lt, slice_get, slice_set, slice_index, slice_index_or, Option, Some, None, option_map, unwrap_or, if◌then◌else◌, ◌==◌}
use Rattle.std.specs.List.{concat, filter, zip, position, swap_remove}
use Rattle.std.specs.declared.cmp.Ordering.TheVariants.{Less}
use Rattle.std.specs.FinMap.{find}
use Rattle.ecs_id.specs.Id.{Id, id_cmp, id_eq}
use Rattle.ecs_id.specs.declared.EntityId.{EntityId}
use Rattle.ecs_table.specs.EntityList.{Entities}
pub use Rattle.raw_column.specs.Contents.{no_values}
use Rattle.raw_column.specs.Contents.{Contents, with_bytes, with_item, with_zero, without_item}
use Rattle.raw_column.specs.Places.{Values}

-- a table: its ids, those with data, the values of each of these, the entities by row, and how many more rows fit
pub record Archetype : Type 0 where
  pub ids : List Id
  pub data_ids : List Id
  pub columns : List Values
  pub entities : List EntityId
  pub room : ℕ

-- the ids whose values have bytes
abbrev pub ids_with_data : List Id → List ℕ → List Id
ids_with_data ids sizes = map (λ p. p.0) (filter (λ p. nat_lt 0 p.1) (zip ids sizes))

-- the table of these ids with no row
abbrev pub empty_table : List Id → List ℕ → Archetype
empty_table ids sizes = record {
  ids = ids;
  data_ids = ids_with_data ids sizes;
  columns = map no_values (filter (λ s. nat_lt 0 s) sizes);
  entities = [];
  room = 0;
}

-- the table with a row of zeros at the end
abbrev pub with_row : Archetype → EntityId → Archetype
with_row t e = record t { columns = map with_zero t.columns; entities = t.entities ++ e ∷ []; room = t.room - 1 }

-- where an id stands among these
unfoldable pub index_in : List Id → Id → Option ℕ
index_in ids i = position (λ j. id_eq j i) ids

abbrev pub values_at : List Values → ℕ → Values
values_at columns k = slice_index_or columns k (no_values 0)

-- the value of an id at a row, where the id has data
abbrev pub value_of : Archetype → ℕ → Id → Option (List ℕ)
value_of t row i = elim (index_in t.data_ids i) [ None ↦ None | Some k ↦ slice_get (values_at t.columns k).items row ]

-- the bytes of an id's values, those of one row after another, where the id has data
abbrev pub column_of : Archetype → Id → Option (List ℕ)
column_of t i = elim (index_in t.data_ids i) [ None ↦ None | Some k ↦ Some (concat (values_at t.columns k).items) ]

-- how many bytes the value of an id has, where the id has data
abbrev pub size_of : Archetype → Id → Option ℕ
size_of t i = elim (index_in t.data_ids i) [ None ↦ None | Some k ↦ Some (values_at t.columns k).size ]

-- the columns with another value in one of them
abbrev pub with_item_in : Option ℕ → List Values → ℕ → List ℕ → List Values
with_item_in None columns row bytes = columns
with_item_in (Some k) columns row bytes = slice_set columns k (with_item (values_at columns k) row bytes)

-- the table with another value of an id at a row
abbrev pub with_value : Archetype → ℕ → Id → List ℕ → Archetype
with_value t row i bytes = record t { columns = with_item_in (index_in t.data_ids i) t.columns row bytes }

-- the columns with other values in all n rows of one of them, which are these bytes, those of one row after another
abbrev pub with_bytes_in : Option ℕ → List Values → ℕ → List ℕ → List Values
with_bytes_in None columns n bytes = columns
with_bytes_in (Some k) columns n bytes = slice_set columns k (with_bytes (values_at columns k) n bytes)

-- the table with other values of an id in all rows
abbrev pub with_column : Archetype → Id → List ℕ → Archetype
with_column t i bytes = record t { columns = with_bytes_in (index_in t.data_ids i) t.columns (length t.entities) bytes }

-- stands for an entity where a list has none
abbrev pub no_entity : EntityId
no_entity = record { index = 0; generation = 0 }

abbrev pub entity_at : Archetype → ℕ → EntityId
entity_at t row = slice_index_or t.entities row no_entity

-- the table without a row, whose place the last one takes
abbrev pub without_row : Archetype → ℕ → Archetype
without_row t row = record t { columns = map (without_item row) t.columns; entities = swap_remove t.entities row no_entity; room = t.room + 1 }

-- the entity that takes the place of a row that is removed: that of the last row, unless it is this one
abbrev pub moved_into : Archetype → ℕ → Option EntityId
moved_into t row = if nat_lt (row + 1) (length t.entities) then slice_get t.entities (length t.entities - 1) else None

-- these bytes if they are n, or else n zeros
abbrev pub fitting : ℕ → Option (List ℕ) → List ℕ
fitting n None = replicate n 0
fitting n (Some bytes) = if length bytes == n then bytes else replicate n 0

-- the values with one at the end
abbrev pub with_last : Option (List ℕ) → Values → Values
with_last bytes v = record v { items = v.items ++ fitting v.size bytes ∷ [] }

-- the table t with the row of s at the end: of each id the value that it has there, or else zeros
abbrev pub with_moved : Archetype → Archetype → ℕ → Archetype
with_moved t s row = record t { columns = map (λ p. with_last (value_of s row p.0) p.1) (zip t.data_ids t.columns); entities = t.entities ++ entity_at s row ∷ []; room = t.room - 1 }

-- an id with data in both tables has values of one size
abbrev pub HaveEqualSizes : Archetype → Archetype → Type 0
HaveEqualSizes s t = (i : Id) (m n : ℕ) → size_of s i ≡ Some m → size_of t i ≡ Some n → m ≡ n

-- ids, each with the bytes of a value, none for a tag
abbrev pub Cells : Type 0
Cells = List (Id × List ℕ)

-- ids, each with how many bytes its values have, 0 for a tag
abbrev pub Shape : Type 0
Shape = List (Id × ℕ)

-- the values of a row: of each id its bytes, none where it has no data
abbrev pub cells_of : Archetype → ℕ → Cells
cells_of t row = map (λ i. (i, unwrap_or (value_of t row i) [])) t.ids

-- a row: its entity with its values, if there are so many rows
abbrev pub row_of : Archetype → ℕ → Option (EntityId × Cells)
row_of t row = option_map (λ e. (e, cells_of t row)) (slice_get t.entities row)

-- how many bytes a value of an id has in a table, 0 for a tag
abbrev pub byte_size : Archetype → Id → ℕ
byte_size t i = unwrap_or (size_of t i) 0

-- the ids of a table with their sizes
abbrev pub shape_of : Archetype → Shape
shape_of t = map (λ i. (i, byte_size t i)) t.ids

-- zeros for each id
abbrev pub zero_cells : Shape → Cells
zero_cells f = map (λ c. (c.0, replicate c.1 0)) f

-- for each id the value that it has in the cells, or else zeros
abbrev pub carried : Shape → Cells → Cells
carried f cells = map (λ c. (c.0, unwrap_or (find id_cmp c.0 cells) (replicate c.1 0))) f

-- the cells with other bytes for an id
abbrev pub with_cell : Id → List ℕ → Cells → Cells
with_cell i bytes cells = map (λ c. (c.0, if id_eq c.0 i then bytes else c.1)) cells

-- an id that both shapes have has one size in them
abbrev pub HaveOneSize : Shape → Shape → Type 0
HaveOneSize f g = (i : Id) (m n : ℕ) → find id_cmp i f ≡ Some m → find id_cmp i g ≡ Some n → m ≡ n

-- there is a value for each of the n rows, and each has all its bytes
pub record IsShaped (n : ℕ) (v : Values) : Type 0 where
  pub rows : length v.items ≡ n
  pub bytes : (j : ℕ) (d : List ℕ) → j < n → length (slice_index_or v.items j d) ≡ v.size

-- what every table has: of each id a size from 0 to 64, and values of this size for each row where it is not 0
pub record IsSound (t : Archetype) : Type 0 where
  pub sizes : List ℕ
  pub beside : length t.ids ≡ length sizes
  pub small : (k : ℕ) → k < length sizes → slice_index sizes k ≤ 64
  pub with_data : t.data_ids ≡ ids_with_data t.ids sizes
  pub sized : map (λ v. v.size) t.columns ≡ filter (λ s. nat_lt 0 s) sizes
  pub shaped : (k : ℕ) (d : Values) → k < length t.columns → IsShaped (length t.entities) (slice_index_or t.columns k d)

-- what is seen of a table
abbrev pub seen : List Id → List Id → Contents → List EntityId → ℕ → Archetype
seen ids data_ids block entities room = record { ids = ids; data_ids = data_ids; columns = block.columns; entities = entities; room = room }

-- the values with this one, if there is one of their size, in the place of that at a row
abbrev pub replaced : ℕ → Option (List ℕ) → Values → Values
replaced row None v = v
replaced row (Some bytes) v = if length bytes == v.size then with_item v row bytes else v

-- each id comes before all later ones
abbrev pub Ascend : List Id → Type 0
Ascend ids = (j k : ℕ) (d : Id) → j < k → k < length ids → id_cmp (slice_index_or ids j d) (slice_index_or ids k d) ≡ Less

-- how a table's lists stand beside each other
pub record IsStored (ids data_ids : List Id) (block : Contents) (entities : Entities) (more : ℕ) : Type 0 where
  pub sound : IsSound (seen ids data_ids block entities.items more)
  pub rows : block.len ≡ length entities.items
  pub places : more ≤ block.room
  pub room : length entities.items + more ≤ entities.capacity
