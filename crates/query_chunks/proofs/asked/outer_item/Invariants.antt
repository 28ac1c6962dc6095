use Rattle.std.specs.Prelude.{map}
use Rattle.query_check.specs.Seen.{seen_piece}
use Rattle.query_chunks.proofs.Items.{IsPassing}
use Rattle.query_chunks.proofs.asked.outer_item.Given as goal

abbrev pub invariant-loop-piece : goal.invariant-loop-piece
invariant-loop-piece g l = IsPassing (map seen_piece l.pieces) l.number l.piece-index l.depth l.left
