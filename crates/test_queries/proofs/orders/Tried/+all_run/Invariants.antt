-- the steps stay as many
use Rattle.std.proofs.Common.{◌≡◌, ◌<◌, ◌≤◌, length, ◌-◌}
use Rattle.test_queries.proofs.orders.Tried.+all_run.Given as goal

abbrev pub decreases-all_run : goal.decreases-all_run
decreases-all_run l = length l.steps.now - l.at

abbrev pub decreases-pieces : goal.decreases-pieces
decreases-pieces l = l.end - l.at - l.turned

abbrev pub invariant-pieces : goal.invariant-pieces
invariant-pieces l = record {
  kept : length l.steps ≡ length l.fn.steps;
  end : l.end ≤ length l.fn.steps;
  within : l.at < l.end;
}

abbrev pub invariant-loop-mode : goal.invariant-loop-mode
invariant-loop-mode l = record {
  kept : length l.steps ≡ length l.fn.steps;
  end : l.end ≤ length l.fn.steps;
  within : l.at < l.end;
}
