use Rattle.std.proofs.Common.{◌≡◌}
use Rattle.raw_column.proofs.ShiftLemmas.{gathered_upto}
use Rattle.raw_column.proofs.places.gather.Given as goal

-- the columns before this one have their new places
abbrev pub invariant-loop-column : goal.invariant-loop-column
invariant-loop-column g l = l.bytes ≡ gathered_upto l.len l.from l.to l.sizes l.column l.initial.bytes
