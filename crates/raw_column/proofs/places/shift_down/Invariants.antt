use Rattle.std.proofs.Common.{◌≡◌, ◌-◌, ◌≤◌, take, drop}
use Rattle.raw_column.specs.Places.{over}
use Rattle.raw_column.proofs.places.shift_down.Given as goal

-- the first bytes are moved
abbrev pub invariant-loop-done : goal.invariant-loop-done
invariant-loop-done l = (l.done ≤ l.size) × (l.bytes ≡ over l.to l.done l.initial.bytes (take l.done (drop l.from l.initial.bytes)))

abbrev pub decreases-loop-done : goal.decreases-loop-done
decreases-loop-done l = l.size - l.done
