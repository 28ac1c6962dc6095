use Rattle.std.proofs.Common.{◌≡◌}
use Rattle.raw_column.proofs.ShiftLemmas.{spread_from}
use Rattle.raw_column.proofs.places.spread.Given as goal

-- the columns from this one on have their new places
abbrev pub invariant-loop-column : goal.invariant-loop-column
invariant-loop-column g l = l.bytes ≡ spread_from l.len l.from l.to l.sizes l.column l.initial.bytes
