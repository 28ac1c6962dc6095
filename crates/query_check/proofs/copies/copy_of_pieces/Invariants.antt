use Rattle.std.proofs.Common.{◌≡◌, map, take}
use Rattle.query_check.specs.Seen.{seen_piece}
use Rattle.query_check.proofs.copies.copy_of_pieces.Given as goal

abbrev pub invariant-loop-piece : goal.invariant-loop-piece
invariant-loop-piece g l = map seen_piece l.copy.items ≡ map seen_piece (take l.piece-index l.pieces)
