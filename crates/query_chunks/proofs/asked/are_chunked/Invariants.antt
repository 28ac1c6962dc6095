use Rattle.query_check.specs.Seen.{seen_piece}
use Rattle.query_check.proofs.PartReferences.{AllYet}
use Rattle.query_chunks.specs.Asked.{is_chunked_piece}
use Rattle.query_chunks.proofs.asked.are_chunked.Given as goal

abbrev pub invariant-loop-piece : goal.invariant-loop-piece
invariant-loop-piece g l = AllYet is_chunked_piece seen_piece l.pieces l.piece-index
