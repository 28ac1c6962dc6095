use Rattle.std.proofs.Common.{◌≡◌, ◌++◌, take}
use Rattle.std.specs.Prelude.{flat_map}
use Rattle.ecs_model.specs.stored.Watches.{event_text}
use Rattle.ecs_observe.proofs.telling.write_all.Given as goal

abbrev pub invariant-loop-event : goal.invariant-loop-event
invariant-loop-event g l = l.output.items ≡ l.initial.output.items ++ flat_map event_text (take l.event-index l.events)
