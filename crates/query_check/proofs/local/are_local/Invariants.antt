use Rattle.query_check.specs.Seen.{seen_piece}
use Rattle.query_model.specs.Local.{is_local_piece}
use Rattle.query_check.proofs.PartReferences.{AllYet}
use Rattle.query_check.proofs.local.are_local.Given as goal

abbrev pub invariant-loop-piece : goal.invariant-loop-piece
invariant-loop-piece g l = AllYet is_local_piece seen_piece l.pieces l.piece-index
