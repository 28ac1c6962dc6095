use Rattle.std.proofs.Common.{◌≡◌, drop}
use Rattle.std.specs.Prelude.{map}
use Rattle.query_check.specs.Seen.{seen_piece}
use Rattle.watch_asked.specs.Asked.{may_meet}
use Rattle.watch_asked.proofs.asked.may_meet.Given as goal

abbrev pub invariant-loop-piece : goal.invariant-loop-piece
invariant-loop-piece g l = may_meet (map seen_piece l.pieces) ≡ may_meet (map seen_piece (drop l.piece-index l.pieces))
