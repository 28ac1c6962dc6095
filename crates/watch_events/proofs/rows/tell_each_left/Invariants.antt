use Rattle.std.proofs.Common.{◌≡◌, ◌++◌, take}
use Rattle.std.specs.Prelude.{map}
use Rattle.watch_concerns.specs.Since.{left_event}
use Rattle.watch_events.proofs.rows.tell_each_left.Given as goal

abbrev pub invariant-loop-index : goal.invariant-loop-index
invariant-loop-index g l = l.events.items ≡ l.fn.events.items ++ map (left_event l.world.state l.changes l.name) (take l.index-index l.left)
