use Rattle.std.proofs.Common.{◌≡◌, ◌++◌, drop}
use Rattle.std.specs.Prelude.{map}
use Rattle.query_check.specs.Seen.{seen_piece}
use Rattle.watch_asked.specs.Asked.{needs_in_front}
use Rattle.watch_asked.proofs.asked.needs_in_front.Given as goal

abbrev pub invariant-loop-piece : goal.invariant-loop-piece
invariant-loop-piece g l = l.needs.items ++ needs_in_front (map seen_piece (drop l.piece-index l.pieces)) ≡ needs_in_front (map seen_piece l.pieces)
