use Rattle.std.proofs.Common.{◌≡◌, ◌+◌, ◌-◌, ◌≤◌, take, drop}
use Rattle.raw_column.specs.Places.{over}
use Rattle.raw_column.proofs.places.shift_up.Given as goal

-- the last bytes are moved
abbrev pub invariant-loop-left : goal.invariant-loop-left
invariant-loop-left l = (l.left ≤ l.size) × (l.bytes ≡ over (l.to + l.left) (l.size - l.left) l.initial.bytes (take (l.size - l.left) (drop (l.from + l.left) l.initial.bytes)))

abbrev pub decreases-loop-left : goal.decreases-loop-left
decreases-loop-left l = l.left
