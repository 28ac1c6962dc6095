use Rattle.std.proofs.Common.{◌≡◌, drop}
use Rattle.std.specs.Prelude.{map}
use Rattle.query_check.specs.Seen.{seen_piece}
use Rattle.watch_concerns.specs.OwnIds.{lacks_from}
use Rattle.watch_concerns.proofs.own_ids.pieces_lack.Given as goal

abbrev pub invariant-loop-piece : goal.invariant-loop-piece
invariant-loop-piece g l = lacks_from l.ids (map seen_piece l.pieces) ≡ lacks_from l.ids (map seen_piece (drop l.piece-index l.pieces))
