use Rattle.std.proofs.Common.{◌≡◌, ◌++◌, take}
use Rattle.std.specs.Prelude.{filter, map}
use Rattle.watch_concerns.specs.Since.{held_before, removed_event}
use Rattle.watch_events.specs.Terms.{tells}
use Rattle.watch_events.proofs.removals.tell_removals.Given as goal

abbrev pub invariant-loop-fact : goal.invariant-loop-fact
invariant-loop-fact g l =
    l.events.items ≡ l.fn.events.items
    ++ map (removed_event l.world.state l.changes l.audience.name.now) (filter (tells (held_before l.world.state l.changes) l.term) (take l.fact-index l.facts))
