-- The bits of slots in words.
use Rattle.std.specs.Prelude.{ℕ, ◌*◌, ◌/◌, ◌%◌, ◌==◌, Bool, List, map, length, slice_index_or}
use Rattle.std.specs.Int.{bit_at}
use Rattle.std.specs.List.{range_with_len}

-- whether the bit of a slot is set
abbrev pub is_set : List ℕ → ℕ → Bool
is_set words n = bit_at (slice_index_or words (n / 64) 0) (n % 64) == 1

-- the bits of words, from that of slot 0 on
unfoldable pub bits_of : List ℕ → List Bool
bits_of words = map (is_set words) (range_with_len 0 (64 * length words))
