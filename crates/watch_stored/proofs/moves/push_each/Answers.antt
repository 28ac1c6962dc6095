use Rattle.watch_stored.proofs.MovedEntities.{moves_more}
use Rattle.watch_stored.proofs.moves.push_each.Goals as goal

pub loop-entity-preserved : goal.loop-entity-preserved
loop-entity-preserved g c =
    let more = c.in_ok-push_move.ensures in
    moves_more c.args.question.now c.args.moving.now c.loop-entity.entity-index c.args.rows.now c.loop-entity.rows _ _ c.loop-entity-test.true c.loop-entity.invariant c.in_ok-is.ensures more.left more.entered more.these
