use Rattle.std.proofs.Common.{◌≡◌, ◌++◌, map, take, drop}
use Rattle.raw_column.specs.Places.{columns_in, gap_filled}
use Rattle.raw_column.proofs.places.remove_each.Given as goal

abbrev pub invariant-loop-column : goal.invariant-loop-column
invariant-loop-column g l = let first = columns_in l.capacity l.sizes l.initial.bytes in columns_in l.capacity l.sizes l.bytes ≡ map (gap_filled l.row l.last) (take l.column first) ++ drop l.column first
