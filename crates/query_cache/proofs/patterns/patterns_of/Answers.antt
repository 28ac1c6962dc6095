-- One more piece at each turn.
use Rattle.std.proofs.Common.{◌∙◌, ap, subst, sym}
use Rattle.query_check.specs.Seen.{seen_item, seen_piece}
use Rattle.query_cache.proofs.PatternWalks.{IsWalking, all_walked, closed_one, item_one, none_walked, opened_one, past_all, piece_at, same_patterns}
use Rattle.query_cache.proofs.patterns.patterns_of.Goals as goal
use Rattle.query_cache.proofs.patterns.patterns_of.Goals.{in-Item+in_ok-add_pattern-in-Item, in-Opening, in-Closing}

pub loop-piece-init : goal.loop-piece-init
loop-piece-init g c = subst (λ l. IsWalking c.args.query.now 0 0 l) (sym c.new-patterns.ensures.items) (none_walked c.args.query.now)

pub loop-piece-preserved : goal.loop-piece-preserved
loop-piece-preserved g c =
    let q = c.args.query.now in
    let l = c.loop-piece in
    let i = l.piece-index in
    let piece = c.piece-item.result in
    let at = piece_at seen_piece c.pieces-piece-items.result.now q.pieces i piece c.pieces-piece-items.ensures c.loop-piece-test.true c.piece-item.is in
    elim c.match-piece.branch [
      | in-Item+in_ok-add_pattern-in-Item w ↦
          same_patterns q _ _ _ _ _
          (item_one q i l.depth l.patterns.items l.invariant (seen_piece piece) at (seen_item w.in-Item.item) (ap seen_piece w.in-Item.is) _ w.in_ok-add_pattern-in-Item.ensures)
          w.depth-is (ap (λ s. s.items) w.patterns-is)
      | in-Opening w ↦
          same_patterns q _ _ _ _ _
          (opened_one q i l.depth l.patterns.items l.invariant (seen_piece piece) at _ _ (ap seen_piece w.in-Opening.is))
          w.depth-is (ap (λ s. s.items) w.patterns-is)
      | in-Closing w ↦
          same_patterns q _ _ _ _ _
          (closed_one q i l.depth l.patterns.items l.invariant (seen_piece piece) at (ap seen_piece w.in-Closing.is))
          (w.depth-is ∙ w.saturating_sub-depth.ensures) (ap (λ s. s.items) w.patterns-is)
    ]

pub returns : goal.returns
returns g c =
    let q = c.args.query.now in
    let l = c.loop-piece in
    all_walked q l.piece-index l.depth l.patterns.items l.invariant (past_all seen_piece c.pieces-piece-items.result.now q.pieces l.piece-index c.pieces-piece-items.ensures c.loop-piece-test.false)
