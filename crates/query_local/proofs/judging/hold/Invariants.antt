use Rattle.std.proofs.Common.{◌≡◌, ◌≤◌}
use Rattle.std.specs.Prelude.{drop, map}
use Rattle.query_check.specs.Seen.{seen_piece}
use Rattle.query_local.specs.declared.nesting.Nesting.TheVariants.{Holding}
use Rattle.query_local.specs.Judging.{holds_from, open_groups}
use Rattle.query_local.proofs.judging.hold.Given as goal

abbrev pub invariant-loop-piece : goal.invariant-loop-piece
invariant-loop-piece g l = record {
  left : holds_from l.entity l.ids l.nesting (map seen_piece (drop l.piece-index l.pieces)) ≡ holds_from l.entity l.ids (Holding 0) (map seen_piece l.pieces);
  few : open_groups l.nesting ≤ l.piece-index;
}
