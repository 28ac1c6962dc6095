-- Columns in a run of bytes: one after another, each with a place for each of so many rows.
use Rattle.std.specs.Prelude.{ℕ, zero, suc, ◌+◌, ◌-◌, ◌*◌, List, [], ◌∷◌, ◌++◌, take, drop, length, replicate, slice_index_or, slice_set}

-- the values of one column: how many bytes each has, and the bytes by row
pub record Values : Type 0 where
  pub size : ℕ
  pub items : List (List ℕ)

-- the first n runs of s bytes each
abbrev pub rows : ℕ → ℕ → List ℕ → List (List ℕ)
rows s zero bs = []
rows s (suc n) bs = take s bs ∷ rows s n (drop s bs)

-- the columns of c places each, with values of these sizes
abbrev pub columns_in : ℕ → List ℕ → List ℕ → List Values
columns_in c [] bs = []
columns_in c (s ∷ ss) bs = record { size = s; items = rows s c bs } ∷ columns_in c ss (drop (c * s) bs)

-- the byte at which place i of column k begins
abbrev pub place_of : ℕ → List ℕ → ℕ → ℕ → ℕ
place_of c [] k i = 0
place_of c (s ∷ ss) zero i = i * s
place_of c (s ∷ ss) (suc k) i = c * s + place_of c ss k i

-- the bytes with ws in the place of the s bytes at k
abbrev pub over : ℕ → ℕ → List ℕ → List ℕ → List ℕ
over k s bs ws = take k bs ++ ws ++ drop (k + s) bs

-- the last value fills the gap at a row, and zeros stay at its place
abbrev pub gap_filled : ℕ → ℕ → Values → Values
gap_filled row last v = record v { items = slice_set (slice_set v.items row (slice_index_or v.items last [])) last (replicate v.size 0) }

-- the first n rows of a column, and zeros up to d places
abbrev pub column_resized : ℕ → ℕ → ℕ → List ℕ → List ℕ
column_resized n d s bs = take (n * s) bs ++ replicate ((d - n) * s) 0

-- the first n rows of c places in d places each, with zeros after them
abbrev pub resized : ℕ → ℕ → ℕ → List ℕ → List ℕ → List ℕ
resized n c d [] bs = []
resized n c d (s ∷ ss) bs = column_resized n d s bs ++ resized n c d ss (drop (c * s) bs)

-- the first k bytes, or all that there are, and zeros up to n
abbrev pub padded : ℕ → ℕ → List ℕ → List ℕ
padded k n bs = take k bs ++ replicate (n - length (take k bs)) 0
