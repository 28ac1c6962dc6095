-- What a contract sees of a `Block`: for each column a list of byte strings, with how many rows there are and how many more fit.
use Rattle.std.specs.Prelude.{◌≡◌, ℕ, ◌+◌, ◌-◌, ◌*◌, ◌/◌, ◌^◌, ◌<◌, ◌≤◌, List, [], ◌∷◌, ◌++◌, map, max, take, drop, replicate, length, slice_index, slice_index_or, slice_set}
use Rattle.std.specs.List.{All, sum, swap_remove}
use Rattle.raw_column.specs.Places.{Values, columns_in, rows}

-- how many rows there are, how many more fit, and the values of each column
pub record Contents : Type 0 where
  pub len : ℕ
  pub room : ℕ
  pub columns : List Values

abbrev pub no_values : ℕ → Values
no_values s = record { size = s; items = [] }

-- columns of values of these sizes, with no row
abbrev pub empty_contents : List ℕ → Contents
empty_contents sizes = record { len = 0; room = 0; columns = map no_values sizes }

abbrev pub column_at : Contents → ℕ → Values
column_at c k = slice_index_or c.columns k (no_values 0)

-- the bytes of a row in all columns
abbrev pub row_bytes : Contents → ℕ
row_bytes c = sum (map (λ v. v.size) c.columns)

-- how many rows there can be before memory is asked for again
abbrev pub capacity_of : Contents → ℕ
capacity_of c = c.len + c.room

-- how many rows of so many bytes fit into the greatest block, and of no bytes as many as of one
abbrev pub most_rows : ℕ → ℕ
most_rows width = (2 ^ 63 - 1) / max width 1

abbrev pub most_of : Contents → ℕ
most_of c = most_rows (row_bytes c)

-- the values with one of zeros at the end
abbrev pub with_zero : Values → Values
with_zero v = record v { items = v.items ++ replicate v.size 0 ∷ [] }

-- the values with another one at a row
abbrev pub with_item : Values → ℕ → List ℕ → Values
with_item v row bytes = record v { items = slice_set v.items row bytes }

-- the values without that of a row, whose place the last one takes
abbrev pub without_item : ℕ → Values → Values
without_item row v = record v { items = swap_remove v.items row [] }

-- a row of zeros at the end
abbrev pub with_zeros : Contents → Contents
with_zeros c = record { len = c.len + 1; room = c.room - 1; columns = map with_zero c.columns }

-- another value in a column and a row
abbrev pub with_item_in : Contents → ℕ → ℕ → List ℕ → Contents
with_item_in c column row bytes = record c { columns = slice_set c.columns column (with_item (column_at c column) row bytes) }

-- the values that these bytes are, those of one row after another
abbrev pub with_bytes : Values → ℕ → List ℕ → Values
with_bytes v n bytes = record v { items = rows v.size n bytes }

-- other values in all rows of a column
abbrev pub with_column : Contents → ℕ → List ℕ → Contents
with_column c column bytes = record c { columns = slice_set c.columns column (with_bytes (column_at c column) c.len bytes) }

-- without a row, whose place the last one takes
abbrev pub without_row : Contents → ℕ → Contents
without_row c row = record { len = c.len - 1; room = c.room + 1; columns = map (without_item row) c.columns }

-- a pair of columns, the first of c and the second of d, whose values have one size
abbrev pub HaveOneSize : Contents → Contents → ℕ × ℕ → Type 0
HaveOneSize c d p = (p.0 < length c.columns) × (p.1 < length d.columns) × ((column_at c p.0).size ≡ (column_at d p.1).size)

-- the value of a row of c in the last row of d, each in its column of the pair
abbrev pub with_copied : Contents → ℕ → Contents → ℕ × ℕ → Contents
with_copied c row d p = with_item_in d p.1 (d.len - 1) (slice_index_or (column_at c p.0).items row [])

-- the first n values
abbrev pub first_of : ℕ → Values → Values
first_of n v = record v { items = take n v.items }

-- the values after the first n are zeros
abbrev pub HasZeros : ℕ → ℕ → Values → Type 0
HasZeros capacity n v = drop n v.items ≡ replicate (capacity - n) (replicate v.size 0)

-- how a block's columns lie in its bytes: the values of its rows, and then zeros for those that still fit
pub record IsLaidOut (sizes : List ℕ) (capacity len : ℕ) (bytes : List ℕ) : Type 0 where
  pub sized : (k : ℕ) → k < length sizes → (0 < slice_index sizes k) × (slice_index sizes k ≤ 64)
  pub all : length bytes ≡ capacity * sum sizes
  pub within : len ≤ capacity
  pub in_block : capacity ≤ most_rows (sum sizes)
  pub zeros : All (HasZeros capacity len) (columns_in capacity sizes bytes)
