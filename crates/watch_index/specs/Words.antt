-- Numbers as the bits of words.
use Rattle.std.specs.Prelude.{◌≡◌, ◌≢◌, ℕ, ◌*◌, ◌%◌, ◌<◌, ◌≤◌, ◌==◌, Bool, List, [], All, filter, flat_map, length, slice_index_or}
use Rattle.std.specs.Int.{bit_at}
use Rattle.std.specs.List.{AllPairs, range_with_len}
use Rattle.watch_index.specs.declared.words.Word.{Word}

-- whether the bit of a number is set
abbrev pub has_bit : ℕ → ℕ → Bool
has_bit bits n = bit_at bits (n % 64) == 1

-- how many numbers a block has; named, so that no goal writes them all out
unfoldable pub block_size : ℕ
block_size = 64

-- the numbers of a block whose bits are set, in ascending order
unfoldable pub numbers_at : ℕ → ℕ → List ℕ
numbers_at block bits = filter (has_bit bits) (range_with_len (64 * block) block_size)

abbrev pub numbers_of : Word → List ℕ
numbers_of w = numbers_at w.block w.bits

-- the numbers of these words, one word after another
abbrev pub numbers_in : List Word → List ℕ
numbers_in ws = flat_map numbers_of ws

-- the block of one word is before the block of another
abbrev pub IsBefore : Word → Word → Type 0
IsBefore v w = v.block < w.block

-- the numbers of the block fit in 64 bits
abbrev pub Fits : Word → Type 0
Fits w = w.block < 288230376151711744

abbrev pub IsFull : Word → Type 0
IsFull w = numbers_of w ≢ []

-- blocks ascend, their numbers fit in 64 bits, and no word is empty
pub record AreWords (ws : List Word) : Type 0 where
  pub rise : AllPairs IsBefore ws
  pub fit : All Fits ws
  pub full : All IsFull ws

-- the word of this block stands at this place
pub record IsWordOf (ws : List Word) (block place : ℕ) : Type 0 where
  pub within : place < length ws
  pub is : (d : Word) → (slice_index_or ws place d).block ≡ block

-- no word is of this block, and its word would go to this place
pub record IsPlaceFor (ws : List Word) (block place : ℕ) : Type 0 where
  pub within : place ≤ length ws
  pub below : (k : ℕ) (d : Word) → k < place → (slice_index_or ws k d).block < block
  pub above : (k : ℕ) (d : Word) → place ≤ k → k < length ws → block < (slice_index_or ws k d).block
