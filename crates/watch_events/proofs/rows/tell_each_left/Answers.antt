-- The events of those before the one that is refused were added.
use Rattle.std.proofs.Common.{◌∙◌}
use Rattle.watch_concerns.specs.Since.{left_event}
use Rattle.ecs_print.proofs.Stops.{on_err_anyway, stops_at_item}
use Rattle.watch_events.proofs.rows.tell_each_left.Goals as goal

pub returns-in_err-push_left-clause-front : goal.returns-in_err-push_left-clause-front
returns-in_err-push_left-clause-front g c =
    on_err_anyway _ (stops_at_item (left_event c.args.world.now.state c.args.changes.now c.args.name.now) c.args.left.now c.loop-index.index-index _ _ (c.in_err-push_left.ensures.kept ∙ c.loop-index.invariant))
