use Rattle.std.proofs.Common.{◌≡◌, ◌≤◌, drop}
use Rattle.std.specs.Prelude.{map}
use Rattle.query_check.specs.Seen.{seen_piece}
use Rattle.watch_concerns.specs.FromLeft.{item_binds, passes_from}
use Rattle.watch_concerns.proofs.bonds.binds_directly.Given as goal

abbrev pub invariant-loop-piece : goal.invariant-loop-piece
invariant-loop-piece g l = record {
  left : passes_from (item_binds l.bond l.variable) l.whole l.depth (map seen_piece (drop l.piece-index l.pieces)) ≡ passes_from (item_binds l.bond l.variable) l.whole 0 (map seen_piece l.pieces);
  few : l.depth ≤ l.piece-index;
}
