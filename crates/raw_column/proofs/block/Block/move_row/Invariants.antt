use Rattle.std.proofs.Common.{◌≡◌, take}
use Rattle.std.specs.List.{fold}
use Rattle.raw_column.specs.Contents.{with_copied, with_zeros}
use Rattle.raw_column.proofs.block.Block.move_row.Given as goal

abbrev pub invariant-loop-from : goal.invariant-loop-from
invariant-loop-from g l = l.other ≡ fold (with_copied l.self l.row) (with_zeros l.fn.other) (take l.from-index l.pairs)
