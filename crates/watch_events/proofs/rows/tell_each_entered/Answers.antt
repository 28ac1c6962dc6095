-- The events of those before the one that is refused were added.
use Rattle.std.proofs.Common.{◌∙◌}
use Rattle.ecs_model.specs.declared.watches.EventKind.TheVariants.{Entered}
use Rattle.ecs_model.specs.stored.Watches.{entity_event}
use Rattle.ecs_print.proofs.Stops.{on_err_anyway, stops_at_item}
use Rattle.watch_events.proofs.rows.tell_each_entered.Goals as goal

pub returns-in_err-push_entered-clause-front : goal.returns-in_err-push_entered-clause-front
returns-in_err-push_entered-clause-front g c =
    on_err_anyway _ (stops_at_item (entity_event c.args.name.now Entered c.args.world.now.state) c.args.entered.now c.loop-index.index-index _ _ (c.in_err-push_entered.ensures.kept ∙ c.loop-index.invariant))
