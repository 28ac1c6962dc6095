use Rattle.std.proofs.Common.{◌≡◌, ◌-◌, ◌≤◌, length, take}
use Rattle.flecsq_c.proofs.commands.widen.Given as goal

abbrev pub invariant-loop-count : goal.invariant-loop-count
invariant-loop-count l = (length l.wide ≡ 8) × (l.count ≤ length l.values) × (take l.count l.wide ≡ take l.count l.values)

abbrev pub decreases-loop-count : goal.decreases-loop-count
decreases-loop-count l = length l.values - l.count
