use Rattle.std.proofs.Common.{◌≡◌, ◌++◌, take}
use Rattle.std.specs.Prelude.{filter, map}
use Rattle.ecs_model.specs.World.{holds}
use Rattle.ecs_model.specs.stored.Watches.{fact_event}
use Rattle.watch_events.specs.Terms.{tells, told_value}
use Rattle.watch_events.proofs.facts.tell_facts.Given as goal

abbrev pub invariant-loop-fact : goal.invariant-loop-fact
invariant-loop-fact g l =
    l.events.items ≡ l.fn.events.items
    ++ map (fact_event l.audience.name.now l.kind l.world.state (told_value l.world.state l.kind)) (filter (tells (holds l.world.state) l.term) (take l.fact-index l.facts))
