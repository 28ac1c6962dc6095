use Rattle.std.proofs.Common.{◌≡◌, length}
use Rattle.entity_index.specs.Slots.{live_from, IsRest}
use Rattle.entity_index.proofs.live.LiveIterator.next.Given as goal

abbrev pub invariant-loop-slot : goal.invariant-loop-slot
invariant-loop-slot l =
    IsRest l.self-inside.index l.self-inside.rest.now × (live_from l.self-inside.index l.self-inside.rest.now ≡ live_from l.initial.self-inside.index l.initial.self-inside.rest.now)

abbrev pub decreases-loop-slot : goal.decreases-loop-slot
decreases-loop-slot l = length l.self-inside.rest.now
