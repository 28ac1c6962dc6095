-- The marks of the occasions that are listened for: 4,096 bits, so several occasions may share one.
use Rattle.std.specs.Prelude.{ℕ, ◌+◌, ◌*◌, ◌/◌, ◌%◌, Option, Some, None}
use Rattle.id_pattern.specs.declared.Part.{Part}
use Rattle.id_pattern.specs.declared.Part.TheVariants.{Is, Any}
use Rattle.watch_index.specs.declared.occasion.Occasion.{Occasion}
use Rattle.watch_index.specs.declared.occasion.Occasion.TheVariants.{Life, AskedByAll, Fact}
use Rattle.watch_index.specs.declared.occasion.Way.{Way}
use Rattle.watch_index.specs.declared.occasion.Way.TheVariants.{Moves, IsWritten}

-- `*` gets a number above all indexes
abbrev pub number_of : Part → ℕ
number_of (Is n) = n
number_of Any = 4294967296

-- and a plain id, which has no target, the next one
abbrev pub second_number : Option Part → ℕ
second_number None = 4294967297
second_number (Some p) = number_of p

abbrev pub way_number : Way → ℕ
way_number Moves = 0
way_number IsWritten = 536870912

-- the mark of an occasion. The factors are 2^30 times the golden ratio less one, and 2^30 times the root of two less
-- one; they spread consecutive numbers
abbrev pub mark_of : Occasion → ℕ
mark_of Life = 0
mark_of AskedByAll = 1
mark_of (Fact way p) = ((number_of p.first * 663608941 + second_number p.second * 444758425 + way_number way) / 262144) % 4096
