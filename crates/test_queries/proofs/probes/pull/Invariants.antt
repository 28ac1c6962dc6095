use Rattle.std.proofs.Common.{◌-◌, ◌≡◌, ◌≤◌, length}
use Rattle.test_queries.proofs.probes.pull.Given as goal

abbrev pub invariant-rows : goal.invariant-rows
invariant-rows g l = record { width : l.run.width ≡ l.fn.run.width; row : length l.row ≡ length l.fn.row; limit : l.run.limit ≤ l.fn.run.limit }

abbrev pub decreases-rows : goal.decreases-rows
decreases-rows g l = l.most - l.came
