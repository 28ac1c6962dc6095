-- One more piece at each turn.
use Rattle.std.proofs.Common.{map, refl, ap, ◌∙◌, arith}
use Rattle.query_check.specs.Seen.{seen_item, seen_piece}
use Rattle.query_chunks.proofs.Items.{closed_one, found_one, opened_one, passed_one, piece_at, same_passing}
use Rattle.query_chunks.proofs.asked.outer_item.Goals as goal
use Rattle.query_chunks.proofs.asked.outer_item.Goals.{in-Item+else-depth-eq0, else-depth-eq0-via-then-depth-eq0+else-left-eq0, else-depth-eq0-via-else-depth-eq0, in-Opening, in-Closing}

pub returns-then-left-eq0 : goal.returns-then-left-eq0
returns-then-left-eq0 g c =
    let ps = map seen_piece c.args.pieces.now in
    let l = c.loop-piece in
    let i = l.piece-index in
    let piece = c.piece-item.result in
    let at = piece_at seen_piece c.args.pieces.now ps i piece refl c.loop-piece-test.true c.piece-item.is in
    found_one ps c.args.number i l.depth l.left l.invariant (seen_piece piece) at (seen_item c.in-Item.item) (ap seen_piece c.in-Item.is) c.if-depth-eq0.true c.if-left-eq0.true

pub loop-piece-preserved : goal.loop-piece-preserved
loop-piece-preserved g c =
    let ps = map seen_piece c.args.pieces.now in
    let l = c.loop-piece in
    let i = l.piece-index in
    let piece = c.piece-item.result in
    let at = piece_at seen_piece c.args.pieces.now ps i piece refl c.loop-piece-test.true c.piece-item.is in
    elim c.match-piece.branch [
      | in-Item+else-depth-eq0 w ↦
          same_passing ps c.args.number _ _ _ _ _
          (passed_one ps c.args.number i l.depth l.left l.invariant (seen_piece piece) at (seen_item w.in-Item.item) (ap seen_piece w.in-Item.is)
          (elim w.else-depth-eq0.branch [
            | else-depth-eq0-via-then-depth-eq0+else-left-eq0 v ↦ λ d z. omega (arith, d, z, v.if-left-eq0.false)
            | else-depth-eq0-via-else-depth-eq0 v ↦ λ d z. omega (arith, d, z, v.if-depth-eq0.false)
          ])
          _ w.left_behind-left.ensures)
          w.depth-is w.left-is
      | in-Opening w ↦
          same_passing ps c.args.number _ _ _ _ _
          (opened_one ps c.args.number i l.depth l.left l.invariant (seen_piece piece) at _ _ (ap seen_piece w.in-Opening.is))
          w.depth-is w.left-is
      | in-Closing w ↦
          same_passing ps c.args.number _ _ _ _ _
          (closed_one ps c.args.number i l.depth l.left l.invariant (seen_piece piece) at (ap seen_piece w.in-Closing.is))
          (w.depth-is ∙ w.saturating_sub-depth.ensures) w.left-is
    ]
