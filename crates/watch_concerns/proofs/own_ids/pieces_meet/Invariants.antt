use Rattle.std.proofs.Common.{◌≡◌, false, drop}
use Rattle.std.specs.Prelude.{map}
use Rattle.query_check.specs.Seen.{seen_piece}
use Rattle.watch_concerns.specs.OwnIds.{meets_from}
use Rattle.watch_concerns.proofs.own_ids.pieces_meet.Given as goal

abbrev pub invariant-loop-piece : goal.invariant-loop-piece
invariant-loop-piece g l = record {
  same : meets_from l.ids false false (map seen_piece l.pieces) ≡ meets_from l.ids l.inside l.failed (map seen_piece (drop l.piece-index l.pieces));
  closed : l.inside ≡ false → l.failed ≡ false;
}
