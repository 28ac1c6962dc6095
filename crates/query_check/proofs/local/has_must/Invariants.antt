use Rattle.query_check.specs.Seen.{seen_piece}
use Rattle.query_model.specs.Local.{is_must}
use Rattle.query_check.proofs.PartReferences.{NoneYet}
use Rattle.query_check.proofs.local.has_must.Given as goal

abbrev pub invariant-loop-piece : goal.invariant-loop-piece
invariant-loop-piece g l = NoneYet is_must seen_piece l.pieces l.piece-index
