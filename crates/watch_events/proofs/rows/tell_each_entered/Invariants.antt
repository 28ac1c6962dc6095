use Rattle.std.proofs.Common.{◌≡◌, ◌++◌, take}
use Rattle.std.specs.Prelude.{map}
use Rattle.ecs_model.specs.declared.watches.EventKind.TheVariants.{Entered}
use Rattle.ecs_model.specs.stored.Watches.{entity_event}
use Rattle.watch_events.proofs.rows.tell_each_entered.Given as goal

abbrev pub invariant-loop-index : goal.invariant-loop-index
invariant-loop-index g l = l.events.items ≡ l.fn.events.items ++ map (entity_event l.name Entered l.world.state) (take l.index-index l.entered)
